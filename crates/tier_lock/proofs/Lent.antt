-- What a pass shows after it was lent the baton.
use Rattle.std.proofs.Common.{◌≡◌, ℕ, true, false, List, Option, Some, refl, sym, subst}
use mathlib.Core.Option.{none}
use Rattle.atomic_table.specs.Table.{Me, Allows, step}
use Rattle.atomic_table.specs.Seated.{TableId}
use Rattle.tier_lock.specs.declared.view.View.{View}
use Rattle.tier_lock.specs.declared.view.Lent.{Lent}
use Rattle.tier_lock.specs.Entries.{Reading, own, IsPrefix, AddsEnablesOnly, longer_of}
use Rattle.tier_lock.specs.Known.{KnownPass, KnownBaton}
use Rattle.tier_lock.specs.Turns.{Holds}
use Rattle.tier_lock.specs.Steps.{Settled, Settles, with_baton, settled}
use Rattle.tier_lock.specs.Sits.{known_pass, known_baton, Sits}
use Rattle.tier_lock.proofs.Joining.{settles}

module _ {T E F : Type 0} (k : Reading T E F) where
  -- what a baton's view leaves beside a pass
  abbrev lent_of : View E F → Lent E F
  lent_of w = record { seen = w.seen; fixed = w.fixed }

  -- the load behind a lend may be made
  pub settles_lent : (fixed : F) (size id : ℕ) (v w : View E F) (c : List (ℕ × Option T)) (m : Me (Option T) (View E F)) → m ≡ (with_baton v w, c) → v.live ≡ true → v.turn ≡ false
      → Allows (Holds k fixed) size id m 0 (λ n. n) (Settles k (step size 0 0 0 none) m)
  settles_lent fixed size id v w c m is live idle =
      subst (λ (m : Me (Option T) (View E F)). Allows (Holds k fixed) size id m 0 (λ n. n) (Settles k (step size 0 0 0 none) m)) (sym is) (settles k fixed size id (with_baton v w) (lent_of w) c live idle refl refl)

  pub told : (v w : View E F) (c : List (ℕ × Option T)) (m m' : Me (Option T) (View E F)) → m ≡ (with_baton v w, c) → ((lent : Lent E F) → m.0.beside ≡ Some lent → Settled k m.0 lent m.1 m')
      → Settled k (with_baton v w) (lent_of w) c m'
  told v w c m m' is tells = subst (λ (x : Me (Option T) (View E F)). (lent : Lent E F) → x.0.beside ≡ Some lent → Settled k x.0 lent x.1 m') is tells (lent_of w) refl

  pub sits_lent : (number room made : ℕ) (before : Me (Option T) (View E F)) (w : View E F) (m' : Me (Option T) (View E F)) → Sits {T = T} k.by number room made before → Settled k (with_baton before.0 w) (lent_of w) before.1 m'
      → Sits {T = T} k.by number room made m'
  sits_lent number room made before w m' sits s = subst (λ (m : Me (Option T) (View E F)). Sits {T = T} k.by number room made m) (sym s.seat) record {
    live = sits.live;
    number_is = sits.number_is;
    room_is = sits.room_is;
    made_is = sits.made_is;
    alone = refl;
    hand = sits.hand;
    mine_is = s.known;
  }

  -- the pass p with the baton q is the pass new
  pub record LentTo (p : KnownPass E F) (q : KnownBaton E F) (new : KnownPass E F) : Type 0 where
    pub lent : new ≡ record p { baton = true; seen = longer_of p.seen q.seen }
    pub seen : IsPrefix p.seen new.seen
    pub baton_seen : IsPrefix q.seen new.seen
    pub behind : AddsEnablesOnly k.prep q.seen new.seen
    pub mine : own k.by new.number new.seen ≡ new.mine
    pub fixed : p.fixed ≡ q.fixed

  shows_lent : (table theirs : TableId) (v w : View E F) (c : List (ℕ × Option T)) (m' : Me (Option T) (View E F)) → Settled k (with_baton v w) (lent_of w) c m'
      → LentTo (known_pass table v) (known_baton theirs w) (known_pass table (settled w.seen (with_baton v w)))
  shows_lent table theirs v w c m' s = record { lent = refl; seen = s.seen; baton_seen = s.lent_seen; behind = s.behind; mine = s.known; fixed = s.fixed }

  pub lent_to : (table theirs now : TableId) (v w : View E F) (c : List (ℕ × Option T)) (m' : Me (Option T) (View E F)) (p : KnownPass E F) (q : KnownBaton E F)
      → now ≡ table → known_pass table v ≡ p → known_baton theirs w ≡ q → Settled k (with_baton v w) (lent_of w) c m'
      → LentTo p q (known_pass now m'.0)
  lent_to table theirs now v w c m' p q same is is' s =
      let new : known_pass now m'.0 ≡ known_pass table (settled w.seen (with_baton v w)) = λ i. known_pass (same i) (s.seat i).0 in
      subst (λ (x : KnownPass E F). LentTo p q x) (sym new)
      (subst (λ (x : KnownPass E F). LentTo x q (known_pass table (settled w.seen (with_baton v w)))) is
      (subst (λ (x : KnownBaton E F). LentTo (known_pass table v) x (known_pass table (settled w.seen (with_baton v w)))) is' (shows_lent table theirs v w c m' s)))
