-- An answer is known by its report; results taken apart; how a call's proof goes through its checks; each contract permits one outcome.
pub mod Reports
pub mod Results
pub mod Outcomes
pub mod Giving
pub mod Determined
