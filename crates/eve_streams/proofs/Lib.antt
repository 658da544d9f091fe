pub mod JoinedSends
