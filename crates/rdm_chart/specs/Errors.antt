-- Why no chart is drawn.
use Rattle.rdm_trace.specs.declared.text.TraceError.{TraceError}
use Rattle.rdm_trace.specs.declared.text.TraceError.TheVariants as trace
use Rattle.rdm_chart.specs.declared.charting.ChartError.{ChartError}
use Rattle.rdm_chart.specs.declared.charting.ChartError.TheVariants as chart

-- a line that is none of a trace is told by its number
abbrev pub chart_error : TraceError → ChartError
chart_error trace.OutOfMemory = chart.OutOfMemory
chart_error (trace.Line number) = chart.Line number
