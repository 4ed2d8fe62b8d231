pub mod SetRuns
