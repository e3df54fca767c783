pub mod WholeRequests
pub mod Readings
pub mod RightsAgain
pub mod TokenRequestsAgain
pub mod InteractionsAgain
pub mod GrantsAgain
