-- Values of JSON that are made member by member, and item by item.
use Rattle.std.proofs.Common.{◌≡◌, ℕ, List, [], ◌∷◌, ◌++◌, BTreeMap, String, Vec, Global, refl, sym, ap, ◌∙◌, append_assoc, append-nil}
use Rattle.std.specs.Prelude.{map}
use Rattle.std.proofs.lemmas.List.{map-append}
use Rattle.serde_json.specs.Data.{Data, Members, array, object, no_members, put}
use Rattle.serde_json.specs.View.{items_of, members_view, view}
use Rattle.serde_json.specs.declared.value.Value.{Value, Array, Object}
use Rattle.serde_json.proofs.Views.{view-Array, view-Object}

-- an object whose members are put in two steps
pub object_in_two : (f g : Members → Members) (m0 m1 m2 : BTreeMap (String Global) Value) → m0.entries ≡ [] → members_view m1.entries ≡ f (members_view m0.entries)
    → members_view m2.entries ≡ g (members_view m1.entries) → view (Object m2) ≡ object (g (f no_members))
object_in_two f g m0 m1 m2 none first second = view-Object m2 ∙ ap object (second ∙ ap g (first ∙ ap (λ es. f (members_view es)) none))

-- in one
pub object_in_one : (f : Members → Members) (m0 m1 : BTreeMap (String Global) Value) → m0.entries ≡ [] → members_view m1.entries ≡ f (members_view m0.entries)
    → view (Object m1) ≡ object (f no_members)
object_in_one f m0 m1 none first = view-Object m1 ∙ ap object (first ∙ ap (λ es. f (members_view es)) none)

-- what is put at keys, where each value is known
put_same : (k : List ℕ) (d e : Data) (ms ns : Members) → d ≡ e → ms ≡ ns → put k d ms ≡ put k e ns
put_same k d e ms ns p q = ap (λ x. put k x ms) p ∙ ap (put k e) q

pub put_two : (k l : List ℕ) (d0 d1 e0 e1 : Data) (m0 m1 : Members) → m1 ≡ put k d0 m0 → d0 ≡ e0 → d1 ≡ e1 → put l d1 m1 ≡ put l e1 (put k e0 m0)
put_two k l d0 d1 e0 e1 m0 m1 first p q = put_same l d1 e1 m1 (put k e0 m0) q (first ∙ put_same k d0 e0 m0 m0 p refl)

pub put_three : (k l n : List ℕ) (d0 d1 d2 e0 e1 e2 : Data) (m0 m1 m2 : Members) → m1 ≡ put k d0 m0 → m2 ≡ put l d1 m1 → d0 ≡ e0 → d1 ≡ e1 → d2 ≡ e2
    → put n d2 m2 ≡ put n e2 (put l e1 (put k e0 m0))
put_three k l n d0 d1 d2 e0 e1 e2 m0 m1 m2 first second p q r = put_same n d2 e2 m2 (put l e1 (put k e0 m0)) r (second ∙ put_two k l d0 d1 e0 e1 m0 m1 first p q)

pub put_four : (k l n o : List ℕ) (d0 d1 d2 d3 e0 e1 e2 e3 : Data) (m0 m1 m2 m3 : Members) → m1 ≡ put k d0 m0 → m2 ≡ put l d1 m1 → m3 ≡ put n d2 m2
    → d0 ≡ e0 → d1 ≡ e1 → d2 ≡ e2 → d3 ≡ e3 → put o d3 m3 ≡ put o e3 (put n e2 (put l e1 (put k e0 m0)))
put_four k l n o d0 d1 d2 d3 e0 e1 e2 e3 m0 m1 m2 m3 first second third p q r s =
    put_same o d3 e3 m3 (put n e2 (put l e1 (put k e0 m0))) s (third ∙ put_three k l n d0 d1 d2 e0 e1 e2 m0 m1 m2 first second p q r)

-- a list of two
pub array_of_two : (l0 l1 l2 : Vec Value Global) (v w : Value) (d e : Data) → l0.items ≡ [] → l1.items ≡ l0.items ++ v ∷ [] → l2.items ≡ l1.items ++ w ∷ []
    → view v ≡ d → view w ≡ e → view (Array l2) ≡ array (items_of (d ∷ e ∷ []))
array_of_two l0 l1 l2 v w d e none first second p q =
    let all : l2.items ≡ v ∷ w ∷ [] = second ∙ ap (λ l. l ++ w ∷ []) (first ∙ ap (λ l. l ++ v ∷ []) none) in
    view-Array l2
    ∙ (ap (λ l. array (items_of (map view l))) all
    ∙ (ap (λ x. array (items_of (x ∷ view w ∷ []))) p ∙ ap (λ x. array (items_of (d ∷ x ∷ []))) q))

-- a list of these, all of which are there
pub array_of_all : (l : Vec Value Global) (ds es : List Data) → map view l.items ++ ds ≡ es → ds ≡ [] → view (Array l) ≡ array (items_of es)
array_of_all l ds es told none =
    view-Array l ∙ ap (λ x. array (items_of x)) (sym (append-nil (map view l.items)) ∙ (ap (λ x. map view l.items ++ x) (sym none) ∙ told))

-- one item more of those that are to come
pub item_more : (old new : List Value) (v : Value) (d : Data) (rest more whole : List Data) → new ≡ old ++ v ∷ [] → view v ≡ d → rest ≡ d ∷ more
    → map view old ++ rest ≡ whole → map view new ++ more ≡ whole
item_more old new v d rest more whole is seen next told =
    ap (λ l. map view l ++ more) is
    ∙ (ap (λ l. l ++ more) (map-append view old (v ∷ []))
    ∙ (append_assoc (map view old) (view v ∷ []) more
    ∙ (ap (λ x. map view old ++ x ∷ more) seen
    ∙ (ap (λ l. map view old ++ l) (sym next) ∙ told))))
