pub mod CutoffOrder
pub mod OpenKeys
pub mod OpenLists
pub mod KeyReads
pub mod Filling
pub mod PeerTakes
