mod Assigned
mod Records
mod Requests
mod UnusedSeats
mod Sizes
mod Zipped
