-- What is claimed of a host's calls, in the order to read it.
pub mod Numbers
pub mod HostLists
pub mod HostFacts
pub mod HostsAgree
pub mod LineLists
pub mod QueueHosts
pub mod AllHosts
pub mod ExplainHosts
