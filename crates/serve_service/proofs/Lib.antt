mod TextLaws
mod FrameLaws
mod QueueLaws
mod BeginLaws
mod OpenLaws
mod SaidLaws
mod FaultLaws
