pub mod CommandLemmas
pub mod CountLemmas
pub mod DrillLemmas
pub mod ReportLemmas
