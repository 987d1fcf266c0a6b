-- Loads: regions with the shards that they are homes of, in order of registration.
use Rattle.yard_model.specs.declared.load.Load.{Load}
use Rattle.yard_model.specs.Members.{no_member}

abbrev pub no_load : Load
no_load = record { region = no_member; shards = 0 }
