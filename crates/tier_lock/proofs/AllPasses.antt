-- From what the baton's seat kept of all passes to what contracts say of them.
use Rattle.std.proofs.Common.{◌≡◌, ℕ, ◌+◌, ◌≤◌, List, [], ◌∷◌, ◌++◌, map, Option, Some, All, sym, ap, ◌∙◌, subst, arith}
use Rattle.std.specs.Prelude.{sum_by, Contains}
use Rattle.std.proofs.lemmas.List.{get_or-map, length-map}
use Rattle.std.proofs.lemmas.List.Elements.{All-nil, All-cons, All-head, All-tail}
use Rattle.atomic_table.specs.Table.{Me}
use Rattle.atomic_table.specs.Seated.{TableId}
use Rattle.tier_lock.specs.declared.view.View.{View}
use Rattle.tier_lock.specs.declared.view.Ended.{Ended}
use Rattle.tier_lock.specs.Entries.{Reading, own, IsPrefix, AddsEnablesOnly, AreBelow}
use Rattle.tier_lock.specs.Known.{KnownPass, KnownBaton, AreAll}
use Rattle.tier_lock.specs.Sits.{known_baton}
use Rattle.tier_lock.specs.Closing.{AllEnded, LeftIn, Closed, ended_pass, with_passes}

-- what holds of each element of a list holds of one between two parts
between : {X : Type 0} (P : X → Type 0) (xs : List X) (x : X) (ys : List X) → All P (xs ++ (x ∷ ys)) → P x
between P [] x ys h = All-head P x ys h
between P (y ∷ xs) x ys h = between P xs x ys (All-tail P y (xs ++ (x ∷ ys)) h)

pub all_between : {X : Type 0} (P : X → Type 0) (xs : List X) (x : X) (ys zs : List X) → zs ≡ xs ++ (x ∷ ys) → All P zs → P x
all_between {X = X} P xs x ys zs e h = between P xs x ys (subst (λ (l : List X). All P l) e h)

contains_map : {X Y : Type 0} (f : X → Y) (xs : List X) (x : X) → Contains xs x → Contains (map f xs) (f x)
contains_map f xs x h = (h.0, (let more = length-map xs f in let low = h.1 in omega arith), get_or-map f xs h.0 x (f x) h.1 ∙ ap f h.2)

all_unmap : {X Y : Type 0} (P : Y → Type 0) (f : X → Y) (xs : List X) → All P (map f xs) → All (λ x. P (f x)) xs
all_unmap P f [] h = All-nil (λ x. P (f x))
all_unmap P f (x ∷ xs) h = All-cons (λ x. P (f x)) x xs (All-head P (f x) (map f xs) h) (all_unmap P f xs (All-tail P (f x) (map f xs) h))

all_weaker : {X : Type 0} (P Q : X → Type 0) (xs : List X) → All P xs → ((x : X) → P x → Q x) → All Q xs
all_weaker P Q [] h f = All-nil Q
all_weaker P Q (x ∷ xs) h f = All-cons Q x xs (f x (All-head P x xs h)) (all_weaker P Q xs (All-tail P x xs h) f)

module _ {E F : Type 0} where
  -- all passes have ended
  pub all_ended : {T : Type 0} (ps : List (KnownPass E F)) (v : View E F) (c : List (ℕ × Option T)) (m : Me (Option T) (View E F)) → m ≡ (with_passes ps v, c) → v.ended ≡ [] → AreAll ps → AllEnded m.0.ended
  all_ended ps v c m is none all =
      let first = all.first in
      subst (λ (l : List (Ended E F)). AllEnded l) (sym (ap (λ m. m.0.ended) is ∙ ap (λ (l : List (Ended E F)). l ++ map ended_pass ps) none)) record {
        count = all.count;
        first = (ended_pass first.0, contains_map ended_pass ps first.0 first.1, first.2, first.3);
        others = λ n low. let p = all.others n low in (ended_pass p.0, contains_map ended_pass ps p.0 p.1, p.2);
      }

module _ {T E F : Type 0} (k : Reading T E F) where
  -- what `close` says of the value
  pub record Says (fixed : F) (ps : List (KnownPass E F)) (q : KnownBaton E F) (value : T) : Type 0 where
    pub fixed_is : k.fixed value ≡ fixed
    pub seen : All (λ (p : KnownPass E F). IsPrefix p.seen (k.entries value)) ps
    pub mine : All (λ (p : KnownPass E F). own k.by p.number (k.entries value) ≡ p.mine) ps
    pub numbers : All (λ (p : KnownPass E F). p.number ≡ 0 → AreBelow k.by p.made (k.entries value)) ps
    pub pass_fixed : All (λ (p : KnownPass E F). p.fixed ≡ Some (k.fixed value)) ps
    pub baton_fixed : q.fixed ≡ Some (k.fixed value)
    pub behind : AddsEnablesOnly k.prep q.seen (k.entries value)
    pub room : sum_by (λ (p : KnownPass E F). p.room) ps + sum_by k.cost (k.entries value) ≤ k.most (k.fixed value)

  says_of : (fixed : F) (ps : List (KnownPass E F)) (table : TableId) (v : View E F) (value : T) → v.ended ≡ [] → v.room ≡ 0 → Closed k fixed (with_passes ps v) value → Says fixed ps (known_baton table v) value
  says_of fixed ps table v value none empty closed =
      let each = all_unmap (λ x. LeftIn k fixed (k.entries value) x) ended_pass ps (subst (λ (l : List (Ended E F)). All (λ x. LeftIn k fixed (k.entries value) x) (l ++ map ended_pass ps)) none closed.passes) in
      let same : Some fixed ≡ Some (k.fixed value) = ap (λ f. Some f) (sym closed.value_fixed) in
      let most : k.most fixed ≡ k.most (k.fixed value) = ap k.most (sym closed.value_fixed) in
      let room = closed.room in
      record {
        fixed_is = closed.value_fixed;
        seen = all_weaker (λ (p : KnownPass E F). LeftIn k fixed (k.entries value) (ended_pass p)) (λ (p : KnownPass E F). IsPrefix p.seen (k.entries value)) ps each (λ p l. l.seen);
        mine = all_weaker (λ (p : KnownPass E F). LeftIn k fixed (k.entries value) (ended_pass p)) (λ (p : KnownPass E F). own k.by p.number (k.entries value) ≡ p.mine) ps each (λ p l. l.mine);
        numbers = all_weaker (λ (p : KnownPass E F). LeftIn k fixed (k.entries value) (ended_pass p)) (λ (p : KnownPass E F). p.number ≡ 0 → AreBelow k.by p.made (k.entries value)) ps each (λ p l. l.numbers);
        pass_fixed = all_weaker (λ (p : KnownPass E F). LeftIn k fixed (k.entries value) (ended_pass p)) (λ (p : KnownPass E F). p.fixed ≡ Some (k.fixed value)) ps each (λ p l. l.fixed_is ∙ same);
        baton_fixed = closed.baton_fixed ∙ same;
        behind = closed.behind;
        room = omega (arith, room, empty, most);
      }

  pub says : (fixed lock_fixed : F) (ps : List (KnownPass E F)) (table : TableId) (v : View E F) (c : List (ℕ × Option T)) (m : Me (Option T) (View E F)) (q : KnownBaton E F) (value : T)
      → m ≡ (with_passes ps v, c) → v.ended ≡ [] → v.room ≡ 0 → known_baton table v ≡ q → fixed ≡ lock_fixed → Closed k fixed m.0 value → Says lock_fixed ps q value
  says fixed lock_fixed ps table v c m q value is none empty view_is same closed =
      subst (λ (x : KnownBaton E F). Says lock_fixed ps x value) view_is
      (subst (λ (x : F). Says x ps (known_baton table v) value) same
      (says_of fixed ps table v value none empty (subst (λ (x : Me (Option T) (View E F)). Closed k fixed x.0 value) is closed)))
