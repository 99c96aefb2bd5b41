pub mod Holding
pub mod Noting
pub mod Renewing
pub mod Tables
pub mod Touching
