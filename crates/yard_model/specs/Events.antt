-- What fills the cells behind a record's events.
use Rattle.yard_model.specs.declared.event.Event.{Event}
use Rattle.yard_model.specs.declared.event.Event.TheVariants.{Created}

abbrev pub no_event : Event
no_event = Created
