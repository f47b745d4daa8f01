mod Counting
mod Fitting
mod DemoRules
mod RuleEquality
