use Rattle.std.proofs.Common.{sym, ap}
use Rattle.serve_laws.specs.Served.{Desk}
use Rattle.serve_books.proofs.books.Books.has_settings.Goals as goal

pub returns-clause-some : goal.returns-clause-some
returns-clause-some c = (c.self.inside.desk, ap (λ (d : Desk). d.so_far) (sym c.self.view_is))
