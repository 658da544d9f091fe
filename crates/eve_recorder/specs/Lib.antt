pub mod Noted
pub mod QueueRule
pub mod RecorderViews
pub mod CounterRule
pub mod TicketViews
pub mod SeatTables
