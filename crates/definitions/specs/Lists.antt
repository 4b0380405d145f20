-- Lists of calls, and the machines that they are held to; the lines of the program.
pub mod Machine
pub mod Sessions
pub mod OddMachine
pub mod History
pub mod Queues
pub mod Settings
pub mod Program
