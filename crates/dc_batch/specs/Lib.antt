pub mod Forms
pub mod JobExamples
pub mod JobFaults
pub mod Jobs
pub mod Machine
pub mod Printed
pub mod Reading
