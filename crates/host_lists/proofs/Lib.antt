-- What is claimed of a host's calls, proved.
pub mod Numbers
pub mod Ran
pub mod HostLists
pub mod HostFacts
pub mod HostsAgree
pub mod LineLists
pub mod QueueHosts
pub mod AllHosts
pub mod ExplainHosts
