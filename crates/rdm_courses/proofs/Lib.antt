mod Equality
