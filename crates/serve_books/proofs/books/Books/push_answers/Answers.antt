use Rattle.std.proofs.Common.{map}
use Rattle.serve_answers.specs.Told.{answer_value}
use Rattle.serve_books.proofs.BookLaws.{lawful_of, on_ok, recorded_in, texts_are}
use Rattle.serve_books.proofs.books.Books.push_answers.Goals as goal

pub push_answers-requires-clause-lawful : goal.push_answers-requires-clause-lawful
push_answers-requires-clause-lawful c = lawful_of c.self.inside.desk c.self.inside.charter c.self.inside.batches c.self.inside.stores c.self.invariant

pub push_answers-requires-clause-recorded : goal.push_answers-requires-clause-recorded
push_answers-requires-clause-recorded c =
    recorded_in c.done_is_right.ensures c.cuts_dont_matter.ensures c.self.inside.desk c.self.inside.charter c.self.inside.batches c.self.inside.stores c.args.self.now (map answer_value c.args.heard.now)
    c.self.invariant c.self.view_is c.requires.heard

pub returns : goal.returns
returns c =
    on_ok c.push_answers.result
    (texts_are c.self.inside.desk c.self.inside.charter c.self.inside.batches c.self.inside.stores c.args.self.now (map answer_value c.args.heard.now) c.args.text.now.items c.push_answers.new.text.items
    c.self.invariant c.self.view_is) c.push_answers.ensures
