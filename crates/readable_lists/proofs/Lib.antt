mod EntryLaws
mod ReplyLaws
mod SizedLaws
mod SlotLaws
mod TellLaws
