-- Registering a clock.
use Rattle.std.proofs.Common.{◌≡◌, ◌≢◌, ℕ, ◌+◌, ◌<◌, ◌||◌, ◌&&◌, Bool, true, false, cond, List, Option, Some, None, refl, sym, ap, subst, ◌∙◌, arith, length, set, nat_eq}
use Rattle.std.proofs.lemmas.List.{length-set}
use Rattle.std.specs.Prelude.{IfSome, slice_index}
use Rattle.clk_base.specs.declared.clock.ClockId.{ClockId}
use Rattle.clk_base.specs.Flags.{is_critical}
use Rattle.clk_base.specs.Description.{Description}
use Rattle.clk_model.specs.declared.row.ClockRow.{ClockRow}
use Rattle.clk_model.specs.declared.row.HandleRow.{HandleRow}
use Rattle.clk_model.specs.Lists.{to_front}
use Rattle.clk_model.specs.State.{State, registered, link_in}
use Rattle.clk_model.specs.Begin.{registered_rows, register}
use Rattle.clk_model.proofs.StateLaws.{settled-still}
use Rattle.clk_tree.specs.TreeState.{TreeState, IsTree}
use Rattle.counts_core.specs.Sums.{up_in}
use Rattle.counts_core.specs.Counted.{CountState, AreCounts, HasLinks, HasOtherLinks}
use Rattle.counts_core.specs.Standing.{StandsFor}
use Rattle.core_parts.specs.Tied.{AreKept, AreTied}
use Rattle.clk_machine.specs.Parts.{Parts, bare, ArePaid, IsWhole}
use Rattle.core_parts.specs.Window.{Shown}
use Rattle.clk_machine.specs.Stands.{Stands, Becomes}
use Rattle.core_parts.proofs.HeldCounts.{held_still}
use Rattle.clk_machine.proofs.Attached.{critical_more, active_beside, IsAttached, stands_attached}
use Rattle.clk_machine.proofs.Flying.{never_flown}
use Rattle.clk_machine.proofs.Writing.{counts_stand}
use Rattle.counts_core.proofs.Standing.{tells_holds}
use Rattle.counts_core.specs.Counted.{is_active}
use Rattle.clk_model.specs.Holders.{active}

-- ---- the parts after it

-- a clock of a tree was registered, and nothing else changed but what follows
pub record Registered (old : Parts) (c : ℕ) (tree' : TreeState) (counts' : CountState) : Type 0 where
  pub place : c < length old.desc.defs
  pub free : registered old.tree.clocks c ≡ false
  pub rows : (k : ℕ) → registered tree'.clocks k ≡ (registered old.tree.clocks k || nat_eq c k)
  pub clocks : IfSome old.window.words (λ regs. tree'.clocks ≡ registered_rows old.desc.defs regs old.tree.clocks c)
  pub order : tree'.order ≡ to_front c old.tree.order
  pub defs : tree'.defs ≡ old.tree.defs
  pub kept : AreKept old.desc.defs old.window.words tree'.clocks tree'.rates
  pub stands : IsTree tree'.defs tree'.clocks tree'.order tree'.rates
  pub link : Option ClockId
  pub counts : counts' ≡ record old.counts { links = set old.counts.links c link }
  pub links : HasLinks tree'.clocks counts'.links
  pub keeps : AreCounts counts'

-- the parts with these words, this tree and these counts, and a credit spent
abbrev pub with_registered : Parts → Shown → TreeState → CountState → Parts
with_registered old window' tree' counts' = record old { window = window'; tree = tree'; counts = counts'; spent = old.spent + 1 }

-- a credit more is spent
pub paid_more : (handles : List (Option HandleRow)) (credits spent : ℕ) → ArePaid handles credits spent → spent < credits → ArePaid handles credits (spent + 1)
paid_more handles credits spent paid left = record {
  few_credits = paid.few_credits;
  within = omega arith;
  few_handles = let few = paid.few_handles in omega arith;
  few_holds = let few = paid.few_holds in omega arith;
}

-- the tree goes on with the words
pub tied_registered : (old : Parts) (c : ℕ) (tree' : TreeState) (counts' : CountState) → IsWhole old → Registered old c tree' counts' → AreTied old.desc old.window tree'
tied_registered old c tree' counts' whole now = record {
  valid = whole.tied.valid;
  words = whole.tied.words;
  told = whole.tied.told;
  defs = now.defs ∙ whole.tied.defs;
  stands = now.stands;
  kept = now.kept;
}

-- the parts behind it, with these words, this tree and counts that stand for the tree, stay whole
pub whole_attached : (old : Parts) (c : ℕ) (window' : Shown) (tree' : TreeState) (counts' held : CountState) → IsWhole old → old.flight.going ≡ false → Registered old c tree' counts' → old.spent < old.credits
    → AreTied old.desc window' tree' → AreCounts held → StandsFor held (bare (with_registered old window' tree' held)) → IsWhole (with_registered old window' tree' held)
whole_attached old c window' tree' counts' held whole quiet now left tied keeps stands = record {
  tied = tied;
  paid = paid_more old.table.handles old.credits old.spent whole.paid left;
  counted = record { keeps = keeps; stands = stands };
  clocks = whole.clocks;
  handled = λ n h at. now.rows h.clock.0 ∙ ap (λ (b : Bool). b || nat_eq c h.clock.0) (whole.handled n h at);
  notified = whole.notified;
  listed = whole.listed;
  flown = λ going. never_flown old.flight quiet going;
  room = whole.room;
  prepares_held = held_still (registered old.tree.clocks) (registered tree'.clocks) (length old.desc.defs) old.steps old.prepare_holds (λ k there. now.rows k ∙ ap (λ (b : Bool). b || nat_eq c k) there) whole.prepares_held;
  enables_held = held_still (registered old.tree.clocks) (registered tree'.clocks) (length old.desc.defs) old.steps old.enable_holds (λ k there. now.rows k ∙ ap (λ (b : Bool). b || nat_eq c k) there) whole.enables_held;
}

-- ---- a clock that isn't critical

none_more : (defs : Description) (c : ℕ) (xs ys : List ℕ) → is_critical defs c ≡ false → ys ≡ xs → (d : ℕ) → slice_index ys d ≡ slice_index xs d + critical_more defs c d
none_more defs c xs ys plain same d =
    let first = ap (λ (zs : List ℕ). slice_index zs d) same in
    let none : critical_more defs c d ≡ 0 = ap (λ (t : Bool). cond (t && nat_eq c d) 1 0) plain in
    omega arith

-- its counts stand for what it leaves
pub plain_stands : (old : Parts) (c : ℕ) (tree' : TreeState) (counts' : CountState) (s t : State) → Registered old c tree' counts' → is_critical s.defs c ≡ false
    → StandsFor old.counts s → IsAttached s t c → t.clocks ≡ tree'.clocks → StandsFor counts' t
plain_stands old c tree' counts' s t now plain stands is rows =
    stands_attached old.counts counts' s t c stands is (subst (λ (rs : List ClockRow). HasLinks rs counts'.links) (sym rows) now.links) (ap (λ (k : CountState). k.gated) now.counts)
    (ap (λ (k : CountState). length k.links) now.counts ∙ length-set old.counts.links c now.link)
    (none_more s.defs c old.counts.enables counts'.enables plain (ap (λ (k : CountState). k.enables) now.counts))
    (none_more s.defs c old.counts.prepares counts'.prepares plain (ap (λ (k : CountState). k.prepares) now.counts))
    (ap (λ (k : CountState). k.exclusives) now.counts)

-- the parts without their words and notifiers, with the clock attached
pub bare_attached : (old : Parts) (c : ℕ) (window' : Shown) (tree' : TreeState) (counts' held : CountState) → Registered old c tree' counts'
    → IsAttached (bare old) (bare (with_registered old window' tree' held)) c
bare_attached old c window' tree' counts' held now = record { free = now.free; rows = now.rows; defs = refl; handles = refl; prepare_holds = refl; enable_holds = refl }

pub whole_registered : (old : Parts) (c : ℕ) (tree' : TreeState) (counts' : CountState) → IsWhole old → old.flight.going ≡ false → Registered old c tree' counts' → is_critical old.desc.defs c ≡ false
    → old.spent < old.credits → IsWhole (with_registered old old.window tree' counts')
whole_registered old c tree' counts' whole quiet now plain left =
    whole_attached old c old.window tree' counts' counts' whole quiet now left (tied_registered old c tree' counts' whole now) now.keeps
    (plain_stands old c tree' counts' (bare old) (bare (with_registered old old.window tree' counts')) now plain whole.counted.stands (bare_attached old c old.window tree' counts' counts' now) refl)

-- ---- the state after it

-- the state's rows are those of the tree
pub rows_stand : (old : Parts) (c : ℕ) (tree' : TreeState) (counts' : CountState) (s : State) → Registered old c tree' counts' → Stands old s → (register s c).clocks ≡ tree'.clocks
unfolding register
rows_stand old c tree' counts' s now stands =
    let rows : tree'.clocks ≡ registered_rows old.desc.defs s.regs old.tree.clocks c =
    subst (λ (o : Option (List ℕ)). IfSome o (λ regs. tree'.clocks ≡ registered_rows old.desc.defs regs old.tree.clocks c)) stands.regs now.clocks in
    ap (λ (d : Description). registered_rows d s.regs s.clocks c) stands.defs
    ∙ ap (λ (rs : List ClockRow). registered_rows old.desc.defs s.regs rs c) stands.clocks ∙ sym rows

pub register_rest : (s : State) (c : ℕ) → ((register s c).defs ≡ s.defs) × ((register s c).handles ≡ s.handles) × ((register s c).prepare_holds ≡ s.prepare_holds) × ((register s c).enable_holds ≡ s.enable_holds)
unfolding register
register_rest s c = (refl, refl, refl, refl)

pub state_attached : (old : Parts) (c : ℕ) (tree' : TreeState) (counts' : CountState) (s : State) → Registered old c tree' counts' → Stands old s → IsAttached s (register s c) c
state_attached old c tree' counts' s now stands =
    let rest = register_rest s c in
    record {
      free = ap (λ (rs : List ClockRow). registered rs c) stands.clocks ∙ now.free;
      rows = λ d. ap (λ (rs : List ClockRow). registered rs d) (rows_stand old c tree' counts' s now stands) ∙ now.rows d
          ∙ ap (λ (rs : List ClockRow). registered rs d || nat_eq c d) (sym stands.clocks);
      defs = rest.0;
      handles = rest.1;
      prepare_holds = rest.2;
      enable_holds = rest.3;
    }

-- the parts with these words, this tree and these counts stand for it, with a credit spent
pub registered_stands : (old : Parts) (c : ℕ) (window' : Shown) (tree' : TreeState) (counts' held : CountState) (s : State) (regs' : List ℕ) → Registered old c tree' counts' → Stands old s
    → window'.words ≡ Some regs' → Stands (with_registered old window' tree' held) (record (register s c) { regs = regs'; spent = s.spent + 1 })
unfolding register
registered_stands old c window' tree' counts' held s regs' now stands words = record {
  defs = stands.defs;
  regs = words;
  clocks = rows_stand old c tree' counts' s now stands;
  order = ap (to_front c) stands.order ∙ sym now.order;
  handles = stands.handles;
  notifiers = stands.notifiers;
  prepare_holds = stands.prepare_holds;
  enable_holds = stands.enable_holds;
  change = stands.change;
  along = stands.along;
  credits = stands.credits;
  spent = ap (λ (k : ℕ). k + 1) stands.spent;
  steps = stands.steps;
  ignore_unused = stands.ignore_unused;
}

-- who is active in the counts with the link, and in the state before
pub active_linked : (old : Parts) (c : ℕ) (tree' : TreeState) (counts' : CountState) (s : State) (d : ℕ) → IsWhole old → Registered old c tree' counts' → Stands old s
    → is_active counts' d ≡ active s d
active_linked old c tree' counts' s d whole now stands =
    ap (λ (k : CountState). is_active k d) now.counts ∙ active_beside old c now.link d whole now.free
    ∙ (tells_holds old.counts s whole.counted.keeps (counts_stand old s whole stands) d).active

-- that is what is done to the state
pub becomes_registered : (old : Parts) (c : ℕ) (tree' : TreeState) (counts' : CountState) → IsWhole old → old.flight.going ≡ false → Registered old c tree' counts' → is_critical old.desc.defs c ≡ false
    → Becomes old (λ k. nat_eq c k) (λ s. register s c) (with_registered old old.window tree' counts')
unfolding register
becomes_registered old c tree' counts' whole quiet now plain = record {
  remains = record { desc = refl; told = refl; size = refl; behind = refl; credits = refl; ignore_unused = refl };
  spent = refl;
  flight = refl;
  locks = refl;
  left = refl;
  steps = refl;
  rows = now.rows;
  stands = λ s stands sound.
      let plain_s : is_critical s.defs c ≡ false = ap (λ (ds : Description). is_critical ds c) stands.defs ∙ plain in
      let after = plain_stands old c tree' counts' s (register s c) now plain_s (counts_stand old s whole stands) (state_attached old c tree' counts' s now stands)
      (rows_stand old c tree' counts' s now stands) in
      subst (λ (t : State). Stands (with_registered old old.window tree' counts') (record t { spent = s.spent + 1 }))
      (sym (settled-still s (register s c) (λ d. sym (active_linked old c tree' counts' s d whole now stands) ∙ (tells_holds counts' (register s c) now.keeps after d).active)))
      (registered_stands old c old.window tree' counts' counts' s s.regs now stands stands.regs);
}

-- ---- the counts get the link

-- an unregistered clock has no link among those that the sums are over
pub no_link : (m : Parts) (c : ℕ) → IsWhole m → registered m.tree.clocks c ≡ false → up_in m.counts.links c ≡ None
no_link m c whole free = sym (whole.counted.stands.links c) ∙ by (link_in m.tree.clocks c) refl where
  by : (o : Option ℕ) → link_in m.tree.clocks c ≡ o → o ≡ None
  by None e = refl
  by (Some p) e = let no : true ≡ false = sym (whole.tied.stands.linked c p e) ∙ free in absurd cc

-- the other links are those of the tree
pub other_links : (m : Parts) (c : ℕ) (clocks : List ClockRow) → IsWhole m → ((d : ℕ) → d ≢ c → link_in clocks d ≡ link_in m.tree.clocks d) → HasOtherLinks clocks m.counts.links c
other_links m c clocks whole same d other = same d other ∙ whole.counted.stands.links d
