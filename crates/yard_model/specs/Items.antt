-- What fills the cells behind a cart's items.
use Rattle.yard_model.specs.declared.state.CartItem.{CartItem}

abbrev pub no_item : CartItem
no_item = record { item = 0; quantity = 0 }
