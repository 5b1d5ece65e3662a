pub mod Ethernet
pub mod Line
pub mod Pcap
