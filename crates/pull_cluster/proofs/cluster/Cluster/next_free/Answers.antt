use Rattle.std.proofs.Common.{◌≡◌, ◌∙◌, ◌<◌, ◌≤◌, ℕ, sym, subst, arith, length}
use Rattle.std.specs.Prelude.{true, false}
use Rattle.pull_laws.specs.Pulled.{jobs, is_free}
use Rattle.job_board.specs.Boards.{is_free_state, state_at}
use Rattle.pull_cluster.specs.Cluster.{Cluster, name_at}
use Rattle.pull_cluster.proofs.KeptLaws.{IsNextOf, next_of_queued, free_place, jobs_within, place_is}
use Rattle.pull_cluster.proofs.cluster.Cluster.next_free.Goals as goal

pub next_free-requires : goal.next_free-requires
next_free-requires c = on c.args.from (length (jobs c.self.inside.story.told)) (length c.self.inside.board.states) (subst (λ (k : Cluster). c.args.from ≤ length (jobs k.pulling.told)) (sym c.self.view_is) c.requires) (jobs_within c.self.inside.charter c.self.inside.story.told c.self.inside.queue c.self.inside.sent c.self.inside.board.states c.self.invariant.queue_is c.self.invariant.states_are)
  where
    on : (a b d : ℕ) → a ≤ b → b ≤ d → a ≤ d
    on a b d f g = omega (arith, f, g)

pub returns-clause-from : goal.returns-clause-from
returns-clause-from c =
    let queued : c.total-queued.result ≡ length (jobs c.self.inside.story.told) = c.total-queued.ensures ∙ place_is c.self.inside.charter c.self.inside.story.told c.self.inside.queue c.self.inside.sent c.self.invariant.queue_is in
    let next : IsNextOf (λ i. is_free (name_at c.self.inside.charter i) c.self.inside.story.told) (length (jobs c.self.inside.story.told)) c.args.from c.within.result = next_of_queued (λ i. is_free (name_at c.self.inside.charter i) c.self.inside.story.told) (λ i. is_free_state (state_at c.self.inside.board.states i)) (length (jobs c.self.inside.story.told)) (length c.self.inside.board.states) c.args.from c.next_free.result c.within.result (subst (λ (k : Cluster). c.args.from ≤ length (jobs k.pulling.told)) (sym c.self.view_is) c.requires) (jobs_within c.self.inside.charter c.self.inside.story.told c.self.inside.queue c.self.inside.sent c.self.inside.board.states c.self.invariant.queue_is c.self.invariant.states_are)
    (free_place c.self.inside.charter c.self.inside.story.told c.self.inside.board.states c.self.invariant.states_are) c.next_free.ensures.from c.next_free.ensures.it c.next_free.ensures.between
    (subst (λ n. c.next_free.result < n → c.within.result ≡ c.next_free.result) queued c.within.ensures.below) (λ le. c.within.ensures.past (subst (λ n. n ≤ c.next_free.result) (sym queued) le) ∙ queued) in
    next.from_is

pub returns-clause-within : goal.returns-clause-within
returns-clause-within c =
    let queued : c.total-queued.result ≡ length (jobs c.self.inside.story.told) = c.total-queued.ensures ∙ place_is c.self.inside.charter c.self.inside.story.told c.self.inside.queue c.self.inside.sent c.self.invariant.queue_is in
    let next : IsNextOf (λ i. is_free (name_at c.self.inside.charter i) c.self.inside.story.told) (length (jobs c.self.inside.story.told)) c.args.from c.within.result = next_of_queued (λ i. is_free (name_at c.self.inside.charter i) c.self.inside.story.told) (λ i. is_free_state (state_at c.self.inside.board.states i)) (length (jobs c.self.inside.story.told)) (length c.self.inside.board.states) c.args.from c.next_free.result c.within.result (subst (λ (k : Cluster). c.args.from ≤ length (jobs k.pulling.told)) (sym c.self.view_is) c.requires) (jobs_within c.self.inside.charter c.self.inside.story.told c.self.inside.queue c.self.inside.sent c.self.inside.board.states c.self.invariant.queue_is c.self.invariant.states_are)
    (free_place c.self.inside.charter c.self.inside.story.told c.self.inside.board.states c.self.invariant.states_are) c.next_free.ensures.from c.next_free.ensures.it c.next_free.ensures.between
    (subst (λ n. c.next_free.result < n → c.within.result ≡ c.next_free.result) queued c.within.ensures.below) (λ le. c.within.ensures.past (subst (λ n. n ≤ c.next_free.result) (sym queued) le) ∙ queued) in
    subst (λ (k : Cluster). c.within.result ≤ length (jobs k.pulling.told)) c.self.view_is next.within

pub returns-clause-it : goal.returns-clause-it
returns-clause-it c =
    let queued : c.total-queued.result ≡ length (jobs c.self.inside.story.told) = c.total-queued.ensures ∙ place_is c.self.inside.charter c.self.inside.story.told c.self.inside.queue c.self.inside.sent c.self.invariant.queue_is in
    let next : IsNextOf (λ i. is_free (name_at c.self.inside.charter i) c.self.inside.story.told) (length (jobs c.self.inside.story.told)) c.args.from c.within.result = next_of_queued (λ i. is_free (name_at c.self.inside.charter i) c.self.inside.story.told) (λ i. is_free_state (state_at c.self.inside.board.states i)) (length (jobs c.self.inside.story.told)) (length c.self.inside.board.states) c.args.from c.next_free.result c.within.result (subst (λ (k : Cluster). c.args.from ≤ length (jobs k.pulling.told)) (sym c.self.view_is) c.requires) (jobs_within c.self.inside.charter c.self.inside.story.told c.self.inside.queue c.self.inside.sent c.self.inside.board.states c.self.invariant.queue_is c.self.invariant.states_are)
    (free_place c.self.inside.charter c.self.inside.story.told c.self.inside.board.states c.self.invariant.states_are) c.next_free.ensures.from c.next_free.ensures.it c.next_free.ensures.between
    (subst (λ n. c.next_free.result < n → c.within.result ≡ c.next_free.result) queued c.within.ensures.below) (λ le. c.within.ensures.past (subst (λ n. n ≤ c.next_free.result) (sym queued) le) ∙ queued) in
    subst (λ (k : Cluster). c.within.result < length (jobs k.pulling.told) → is_free (name_at k.script c.within.result) k.pulling.told ≡ true) c.self.view_is next.it

pub returns-clause-between : goal.returns-clause-between
returns-clause-between c =
    let queued : c.total-queued.result ≡ length (jobs c.self.inside.story.told) = c.total-queued.ensures ∙ place_is c.self.inside.charter c.self.inside.story.told c.self.inside.queue c.self.inside.sent c.self.invariant.queue_is in
    let next : IsNextOf (λ i. is_free (name_at c.self.inside.charter i) c.self.inside.story.told) (length (jobs c.self.inside.story.told)) c.args.from c.within.result = next_of_queued (λ i. is_free (name_at c.self.inside.charter i) c.self.inside.story.told) (λ i. is_free_state (state_at c.self.inside.board.states i)) (length (jobs c.self.inside.story.told)) (length c.self.inside.board.states) c.args.from c.next_free.result c.within.result (subst (λ (k : Cluster). c.args.from ≤ length (jobs k.pulling.told)) (sym c.self.view_is) c.requires) (jobs_within c.self.inside.charter c.self.inside.story.told c.self.inside.queue c.self.inside.sent c.self.inside.board.states c.self.invariant.queue_is c.self.invariant.states_are)
    (free_place c.self.inside.charter c.self.inside.story.told c.self.inside.board.states c.self.invariant.states_are) c.next_free.ensures.from c.next_free.ensures.it c.next_free.ensures.between
    (subst (λ n. c.next_free.result < n → c.within.result ≡ c.next_free.result) queued c.within.ensures.below) (λ le. c.within.ensures.past (subst (λ n. n ≤ c.next_free.result) (sym queued) le) ∙ queued) in
    subst (λ (k : Cluster). (i : ℕ) → c.args.from ≤ i → i < c.within.result → is_free (name_at k.script i) k.pulling.told ≡ false) c.self.view_is next.between
