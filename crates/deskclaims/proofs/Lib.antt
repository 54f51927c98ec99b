-- The claims, proved.
pub mod PacketLaws
pub mod KeyLaws
pub mod Asks
pub mod ReplyLaws
pub mod KindLaws
pub mod RoundTrip
