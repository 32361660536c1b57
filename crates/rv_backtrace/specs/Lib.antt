pub mod Backtrace
