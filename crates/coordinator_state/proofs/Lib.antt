mod Same
mod HomesLaws
mod KeptLaws
