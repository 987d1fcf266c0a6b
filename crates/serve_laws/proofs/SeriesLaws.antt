-- Runs one after the other are as one run.
use Rattle.std.proofs.Common.{◌≡◌, ◌⊎◌, ℕ, inl, inr, sym, ap, ap₂, ◌∙◌, refl, subst}
use Rattle.std.specs.Prelude.{true, List, [], ◌∷◌, ◌++◌, filter, map, take, Option, Some, None, Ok}
use Rattle.std.specs.List.{flat_map}
use Rattle.std.proofs.lemmas.List.{append_assoc}
use Rattle.yard_model.specs.declared.charter.Config.{Config}
use Rattle.yard_model.specs.declared.event.Command.{Command}
use Rattle.yard_model.specs.declared.event.Reply.{Reply}
use Rattle.yard_model.specs.declared.fact.Fact.{Fact}
use Rattle.yard_model.specs.Script.{Script, Setting, setting}
use Rattle.yard_model.specs.Setting.{shard_of}
use Rattle.yard_model.specs.SlotLists.{shard_list}
use Rattle.yard_model.specs.SlotReads.{journal}
use Rattle.yard_model.specs.Text.{Bytes, line}
use Rattle.script_text.specs.Words.{words}
use Rattle.disk_log.specs.Spelled.{lines}
use Rattle.log_resume.specs.Restored.{entries}
use Rattle.apply_laws.proofs.AppliedLaws.{taken_law}
use Rattle.serve_laws.specs.Hearing.{Answer, Done, Request, ToDo, after_all, answers_all, ask, heard}
use Rattle.serve_laws.specs.Hearings.{Asks, request_for}
use Rattle.serve_laws.specs.Restarts.{AlikeHearAlike, AlikeServeAlike, AreAlike, FoundIsDesk, IsAlike, RestartIsSame}
use Rattle.serve_laws.specs.Series.{ExactlyOnce, IsTold, Run, RunsAreOne, SeriesIsExact, ServedSeries, Told, ToldIn, behind_run, behind_runs, kept_of, reply_in, told_by}
use Rattle.serve_laws.specs.Served.{Desk, answers, answers_in, config_words, desk_of, empty_desk, found, found_in, frames, grouped, head_of, is_record_of, journal_in, reply_at, served}
use Rattle.serve_laws.specs.Servings.{DoneIsRight, GroupedIsDesk, IsDesk, IsDone, IsRight, Right, ServedIsDesk}
use Rattle.serve_laws.proofs.AlikeLaws.{alike_itself, all_alike}
use Rattle.serve_laws.proofs.SameLaws.{lists_by, set_same}
use Rattle.serve_laws.proofs.ServedLaws.{some_same, some_script}

-- Groups behind groups.

served_join : (d : Desk) (xs ys : List (List Bytes)) → served d (xs ++ ys) ≡ served (served d xs) ys
served_join d [] ys = refl
served_join d (ls ∷ xs) ys = served_join (grouped d ls) xs ys

answers_join : (d : Desk) (xs ys : List (List Bytes)) → answers_in d (xs ++ ys) ≡ answers_in d xs ++ answers_in (served d xs) ys
answers_join d [] ys = refl
answers_join d (ls ∷ xs) ys = ap (λ l. answers d ls ++ l) (answers_join (grouped d ls) xs ys) ∙ sym (append_assoc (answers d ls) (answers_in (grouped d ls) xs) (answers_in (served (grouped d ls) xs) ys))

served_done : GroupedIsDesk → (d : Desk) (groups : List (List Bytes)) → IsDesk d → IsDone d.so_far d.log → IsDesk (served d groups) × IsDone (served d groups).so_far (served d groups).log
served_done law d [] h done = (h, done)
served_done law d (ls ∷ groups) h done = served_done law (grouped d ls) groups (law d ls h).0 (law d ls h).1

-- The same desk, but for the order of two producers' sends.

record AreSame (a b : Desk) : Type 0 where
  so_far : AreAlike a.so_far b.so_far
  log : b.log ≡ a.log

abbrev desk : Option Script → List (List Fact) → Desk
desk so log = record { so_far = so; log = log }

one_group : AlikeHearAlike → AlikeServeAlike → (a b : Option Script) (log : List (List Fact)) (ls : List Bytes) → AreAlike a b
    → (answers (desk b log) ls ≡ answers (desk a log) ls) × AreSame (grouped (desk a log) ls) (grouped (desk b log) ls)
one_group hear serve None None log ls h = (refl, record { so_far = alike_itself (after_all None ls); log = refl })
one_group hear serve (Some c) None log ls h = absurd h
one_group hear serve None (Some d) log ls h = absurd h
one_group hear serve (Some c) (Some d) log ls h = let m = serve c d log ls h in (m.0, record { so_far = (hear c d ls h).1; log = m.1 })

same_group : AlikeHearAlike → AlikeServeAlike → (a b : Desk) (ls : List Bytes) → AreSame a b → (answers b ls ≡ answers a ls) × AreSame (grouped a ls) (grouped b ls)
same_group hear serve a b ls s =
    subst (λ l. (answers (desk b.so_far l) ls ≡ answers a ls) × AreSame (grouped a ls) (grouped (desk b.so_far l) ls)) (sym s.log) (one_group hear serve a.so_far b.so_far a.log ls s.so_far)

same_groups : AlikeHearAlike → AlikeServeAlike → (a b : Desk) (groups : List (List Bytes)) → AreSame a b → (answers_in b groups ≡ answers_in a groups) × AreSame (served a groups) (served b groups)
same_groups hear serve a b [] s = (refl, s)
same_groups hear serve a b (ls ∷ groups) s =
    let first = same_group hear serve a b ls s in
    let rest = same_groups hear serve (grouped a ls) (grouped b ls) groups first.1 in
    (ap₂ (λ (x y : Bytes). x ++ y) first.0 rest.0, rest.1)

-- a run that begins with what was left

found_same_in : RestartIsSame → (a b : Option Script) (log : List (List Fact)) → IsDesk (desk a log) → IsDone a log → AreAlike a b → AreSame (desk a log) (found_in b log)
found_same_in law None None log h done s = record { so_far = tt; log = refl }
found_same_in law (Some c) None log h done s = absurd s
found_same_in law None (Some d) log h done s = absurd s
found_same_in law (Some c) (Some d) log h done s =
    subst (λ (x : Config). AreSame (desk (Some c) log) (desk_of x log)) (sym s.config) (record { so_far = law (desk (Some c) log) h done; log = refl })

found_same : RestartIsSame → (a b : Desk) → IsDesk a → IsDone a.so_far a.log → AreSame a b → AreSame a (found b)
found_same law a b h done s = subst (λ l. AreSame a (found_in b.so_far l)) (sym s.log) (found_same_in law a.so_far b.so_far a.log h done s.so_far)

-- the laws that are wanted
pub record Series : Type 0 where
  pub hear : AlikeHearAlike
  pub serve : AlikeServeAlike
  pub restart : RestartIsSame
  pub found : FoundIsDesk
  pub grouped : GroupedIsDesk

abbrev all_kept : List Run → List (List Bytes)
all_kept runs = flat_map kept_of runs

same_runs : Series → (a b : Desk) (runs : List Run) → IsDesk a → IsDone a.so_far a.log → AreSame a b → (told_by b runs ≡ answers_in a (all_kept runs)) × AreSame (served a (all_kept runs)) (behind_runs b runs)
same_runs laws a b [] h done s = (refl, s)
same_runs laws a b (r ∷ runs) h done s =
    let f : AreSame a (found b) = found_same laws.restart a b h done s in
    let first = same_groups laws.hear laws.serve a (found b) (kept_of r) f in
    let next = served_done laws.grouped a (kept_of r) h done in
    let rest = same_runs laws (served a (kept_of r)) (behind_run b r) runs next.0 next.1 first.1 in (
      ap₂ (λ (x y : Bytes). x ++ y) first.0 rest.0 ∙ sym (answers_join a (kept_of r) (all_kept runs)),
      subst (λ d. AreSame d (behind_runs b (r ∷ runs))) (sym (served_join a (kept_of r) (all_kept runs))) rest.1,
    )

head_same : (a b : Option Script) → AreAlike a b → head_of b ≡ head_of a
head_same None None h = refl
head_same (Some c) None h = absurd h
head_same None (Some d) h = absurd h
head_same (Some c) (Some d) h = ap (λ (x : Config). line (config_words x) ∷ []) h.config

empty_same : AreSame empty_desk empty_desk
empty_same = record { so_far = tt; log = refl }

pub runs_are_one : Series → RunsAreOne
runs_are_one laws runs =
    let m = same_runs laws empty_desk empty_desk runs refl tt empty_same in
    let one : Desk = served empty_desk (all_kept runs) in
    let left : Desk = behind_runs empty_desk runs in
    (m.1.so_far, ap₂ (λ (x y : List Bytes). x ++ y) (head_same one.so_far left.so_far m.1.so_far) (ap (map lines) m.1.log), m.0)

-- What was told.

asks_same : (a b : Option Script) (l : Bytes) (r : Request) → AreAlike a b → Asks b l r → Asks a l r
asks_same None None l r h k = k
asks_same (Some c) None l r h k = absurd h
asks_same None (Some d) l r h k = absurd h
asks_same (Some c) (Some d) l r h k = ap (λ (x : Config). ask x (words l)) (sym h.config) ∙ k

first_answer : (x y : Answer) → x ∷ [] ≡ y ∷ [] → x ≡ y
first_answer x y h = cc

reply_same : (a b : Option Script) (log : List (List Fact)) (t : Told) → AreAlike a b → reply_in b log t ≡ reply_in a log t
reply_same None None log t h = refl
reply_same (Some c) None log t h = absurd h
reply_same None (Some d) log t h = absurd h
reply_same (Some c) (Some d) log t h = ap (λ (s : Setting). reply_at t.producer t.number (journal t.entity (shard_list (lists_by s log) (shard_of s t.entity)))) (set_same c d h)

same_told : Series → (a b : Desk) (groups : List (List Bytes)) (t : Told) → AreSame a b → IsTold b groups t → IsTold a groups t
same_told laws a b groups t s m =
    let old = same_groups laws.hear laws.serve a b m.front s in
    let x : Option Script = after_all (served a m.front).so_far m.before in
    let y : Option Script = after_all (served b m.front).so_far m.before in
    let so : AreAlike x y = (all_alike (served a m.front).so_far (served b m.front).so_far m.before old.1.so_far).1 in
    let group : List Bytes = m.before ++ m.line ∷ m.behind in
    let new : AreSame (served a (m.front ++ group ∷ [])) (served b (m.front ++ group ∷ [])) = (same_groups laws.hear laws.serve a b (m.front ++ group ∷ []) s).1 in
    let u : Desk = served a (m.front ++ group ∷ []) in
    let v : Desk = served b (m.front ++ group ∷ []) in
    record {
      front = m.front;
      before = m.before;
      line = m.line;
      behind = m.behind;
      back = m.back;
      groups_are = m.groups_are;
      asks = asks_same x y m.line (request_for t.producer t.entity t.number t.command) so m.asks;
      done = first_answer (heard x m.line).answer (heard y m.line).answer (sym (all_alike x y (m.line ∷ []) so).0) ∙ m.done;
      reply = sym (reply_same u.so_far v.so_far u.log t new.so_far) ∙ (ap (λ l. reply_in v.so_far l t) (sym new.log) ∙ m.reply);
    }

-- in a front of these groups, or in those behind
front_told : (d : Desk) (xs ys : List (List Bytes)) (t : Told) → IsTold d xs t → IsTold d (xs ++ ys) t
front_told d xs ys t m = record {
  front = m.front;
  before = m.before;
  line = m.line;
  behind = m.behind;
  back = m.back ++ ys;
  groups_are = ap (λ l. l ++ ys) m.groups_are ∙ append_assoc m.front ((m.before ++ m.line ∷ m.behind) ∷ m.back) ys;
  asks = m.asks;
  done = m.done;
  reply = m.reply;
}

back_told : (d : Desk) (xs ys : List (List Bytes)) (t : Told) → IsTold (served d xs) ys t → IsTold d (xs ++ ys) t
back_told d xs ys t m =
    let group : List Bytes = m.before ++ m.line ∷ m.behind in
    let here : served d (xs ++ m.front) ≡ served (served d xs) m.front = served_join d xs m.front in
    let there : served d ((xs ++ m.front) ++ group ∷ []) ≡ served (served d xs) (m.front ++ group ∷ []) = ap (served d) (append_assoc xs m.front (group ∷ [])) ∙ served_join d xs (m.front ++ group ∷ []) in
    record {
      front = xs ++ m.front;
      before = m.before;
      line = m.line;
      behind = m.behind;
      back = m.back;
      groups_are = ap (λ l. xs ++ l) m.groups_are ∙ sym (append_assoc xs m.front (group ∷ m.back));
      asks = subst (λ (x : Desk). Asks (after_all x.so_far m.before) m.line (request_for t.producer t.entity t.number t.command)) (sym here) m.asks;
      done = ap (λ (x : Desk). (heard (after_all x.so_far m.before) m.line).answer) here ∙ m.done;
      reply = ap (λ (x : Desk). reply_in x.so_far x.log t) there ∙ m.reply;
    }

told_once : Series → (a b : Desk) (runs : List Run) (t : Told) → IsDesk a → IsDone a.so_far a.log → AreSame a b → ToldIn b runs t → IsTold a (all_kept runs) t
told_once laws a b [] t h done s m = absurd m
told_once laws a b (r ∷ runs) t h done s (inl m) = front_told a (kept_of r) (all_kept runs) t (same_told laws a (found b) (kept_of r) t (found_same laws.restart a b h done s) m)
told_once laws a b (r ∷ runs) t h done s (inr m) =
    let f : AreSame a (found b) = found_same laws.restart a b h done s in
    let first = same_groups laws.hear laws.serve a (found b) (kept_of r) f in
    let next = served_done laws.grouped a (kept_of r) h done in
    back_told a (kept_of r) (all_kept runs) t (told_once laws (served a (kept_of r)) (behind_run b r) runs t next.0 next.1 first.1 m)

-- In one run what was told is right.

one_command : (so : Option Script) (l : Bytes) (r s : Request) → Asks so l r → Asks so l s → r ≡ s
one_command None l r s h k = absurd h
one_command (Some c) l r s h k = let e : Ok (ToDo r) ≡ Ok (ToDo s) = sym h ∙ k in cc

reply_of : (so : Option Script) (log : List (List Fact)) (t : Told) (c : Script) (r : Reply) → so ≡ Some c → reply_at t.producer t.number (journal_in c log t.entity) ≡ Some r → reply_in so log t ≡ Some t.reply → r ≡ t.reply
reply_of so log t c r is at told = some_same r t.reply (sym at ∙ (ap (λ o. reply_in o log t) (sym is) ∙ told))

told_is_right : ServedIsDesk → DoneIsRight → (a : Desk) (groups : List (List Bytes)) (t : Told) → IsDesk a → IsTold a groups t → Right (served a groups) t.producer t.entity t.number t.command t.reply
told_is_right desks law a groups t h m =
    let d : Desk = served a m.front in
    let group : List Bytes = m.before ++ m.line ∷ m.behind in
    let it = law d m.before m.behind m.line m.back t.producer t.entity t.number (desks a m.front h) m.done in
    let command : it.0 ≡ t.command = ap (λ (r : Request). r.command) (one_command (after_all d.so_far m.before) m.line (request_for t.producer t.entity t.number it.0) (request_for t.producer t.entity t.number t.command) it.2 m.asks) in
    let told : reply_in (grouped d group).so_far (grouped d group).log t ≡ Some t.reply = ap (λ (x : Desk). reply_in x.so_far x.log t) (sym (served_join a m.front (group ∷ []))) ∙ m.reply in
    let reply : it.1 ≡ t.reply = reply_of (grouped d group).so_far (grouped d group).log t it.3.0 it.1 it.3.1 it.3.2.answer told in
    let last : Right (served (grouped d group) m.back) t.producer t.entity t.number it.0 it.1 = it.4 in
    subst (λ (x : Desk). Right x t.producer t.entity t.number t.command t.reply) (sym (ap (served a) m.groups_are ∙ served_join a m.front (group ∷ m.back)))
    (subst (λ k. Right (served (grouped d group) m.back) t.producer t.entity t.number k t.reply) command (subst (λ r. Right (served (grouped d group) m.back) t.producer t.entity t.number it.0 r) reply last))

right_alike : (c d : Script) (log : List (List Fact)) (p : ℕ) (e : List ℕ) (n : ℕ) (k : Command) (r : Reply) → IsAlike c d → IsRight c log p e n k r → IsRight d log p e n k r
right_alike c d log p e n k r a m =
    let same : journal_in d log e ≡ journal_in c log e = ap (λ (s : Setting). journal e (shard_list (lists_by s log) (shard_of s e))) (set_same c d a) in
    record {
      it = m.it;
      alone = ap (filter (is_record_of p n)) same ∙ m.alone;
      command = m.command;
      reply = m.reply;
      answer = ap (reply_at p n) same ∙ m.answer;
    }

right_in : (a b : Option Script) (log : List (List Fact)) (p : ℕ) (e : List ℕ) (n : ℕ) (k : Command) (r : Reply) → AreAlike a b → Right (desk a log) p e n k r → Right (desk b log) p e n k r
right_in None None log p e n k r s m = m
right_in (Some c) None log p e n k r s m = absurd s
right_in None (Some d) log p e n k r s m = absurd s
right_in (Some c) (Some d) log p e n k r s m = (d, refl, right_alike c d log p e n k r s (subst (λ x. IsRight x log p e n k r) (sym (some_script c m.0 m.1)) m.2))

right_same : (a b : Desk) (p : ℕ) (e : List ℕ) (n : ℕ) (k : Command) (r : Reply) → AreSame a b → Right a p e n k r → Right b p e n k r
right_same a b p e n k r s m = subst (λ l. Right (desk b.so_far l) p e n k r) (sym s.log) (right_in a.so_far b.so_far a.log p e n k r s.so_far m)

pub served_series : Series → ServedIsDesk → DoneIsRight → ServedSeries
served_series laws desks law runs t m =
    let one : Desk = served empty_desk (all_kept runs) in
    right_same one (behind_runs empty_desk runs) t.producer t.entity t.number t.command t.reply (same_runs laws empty_desk empty_desk runs refl tt empty_same).1
    (told_is_right desks law empty_desk (all_kept runs) t refl (told_once laws empty_desk empty_desk runs t refl tt empty_same m))

-- Behind runs there is a desk with nothing left to do.

runs_desk : Series → (b : Desk) (runs : List Run) → IsDesk b → IsDone b.so_far b.log → IsDesk (behind_runs b runs) × IsDone (behind_runs b runs).so_far (behind_runs b runs).log
runs_desk laws b [] h done = (h, done)
runs_desk laws b (r ∷ runs) h done =
    let f = laws.found b h done in
    let next = served_done laws.grouped (found b) (kept_of r) f.0 f.1 in
    runs_desk laws (behind_run b r) runs next.0 next.1

exact_in : (so : Option Script) (log : List (List Fact)) (c : Script) (Tells : Told → Type 0) → so ≡ Some c → IsDesk (desk so log) → IsDone so log
    → ((t : Told) → Tells t → Right (desk so log) t.producer t.entity t.number t.command t.reply) → ExactlyOnce c log Tells
exact_in None log c Tells is h done right = cc
exact_in (Some d) log c Tells is h done right =
    subst (λ x. ExactlyOnce x log Tells) (some_script d c is) (record {
      lawful_is = taken_law d (entries log) h.1;
      once = done.1;
      right = λ t m. let k = right t m in subst (λ x. IsRight x log t.producer t.entity t.number t.command t.reply) (sym (some_script d k.0 k.1)) k.2;
    })

pub series_is_exact : Series → ServedSeries → SeriesIsExact
series_is_exact laws series runs c is =
    let left : Desk = behind_runs empty_desk runs in
    let m = runs_desk laws empty_desk runs refl tt in
    exact_in left.so_far left.log c (ToldIn empty_desk runs) is m.0 m.1 (series runs)
