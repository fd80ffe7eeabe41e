-- Laws on what the fields of counts keep, and on which clocks begin to be held.
use Rattle.std.proofs.Common.{◌≡◌, ℕ, zero, suc, ◌+◌, ◌<◌, ◌≤◌, ◌&&◌, Bool, true, false, not, cond, List, Option, Some, None, refl, sym, ap, ◌∙◌, subst, ⊎_elim, arith, length, set, get_or, nat_eq, nat_lt}
use Rattle.std.specs.Prelude.{replicate}
use Rattle.std.specs.Option.{option_map}
use Rattle.std.proofs.lemmas.Bool.{cases_lt}
use Rattle.std.proofs.lemmas.List.{get_or_past, length-replicate}
use Rattle.clk_base.specs.declared.clock.ClockId.{ClockId}
use Rattle.clk_base.specs.declared.clock.ClockDef.{ClockDef}
use Rattle.clk_base.specs.Description.{Description, nobody, parents_of}
use Rattle.clk_base.specs.Flags.{has_flag, sets_rate_gate}
use Rattle.clk_base.specs.Levels.{depth}
use Rattle.clk_base.specs.Valid.{IsValid}
use Rattle.clk_base.proofs.Valid.{length-valid, lines_end}
use Rattle.clk_model.specs.Lists.{is_in}
use Rattle.clk_model.specs.Tree.{path_within}
use Rattle.clk_model.proofs.Members.{same_from_test}
use Rattle.counts_core.specs.Sums.{up_in, LinksEnd, one, kids, AreSums, Begins, Grows, gated_part}
use Rattle.counts_core.specs.Counted.{AreCounts, is_held, protect_own}
use Rattle.counts_core.specs.CountsKept.{AreFew, IsCounted}
use Rattle.counts_core.proofs.Walking.{count-more}
use Rattle.counts_core.proofs.Steps.{steps_down}
use Rattle.counts_core.proofs.Tallies.{sums_small}
use Rattle.counts_core.proofs.Growing.{part-le}
use Rattle.counts_core.proofs.Definitions.{counts_held, counts_sum, true_counts, lines_under}

-- ---- which clocks begin to be held

diff_true : (a b : Bool) → a ≡ true → b ≡ false → true ≡ (a && not b)
diff_true true true e f = f
diff_true true false e f = refl
diff_true false b e f = sym e

diff_false : (a b : Bool) → a ≡ b → false ≡ (a && not b)
diff_false true true e = refl
diff_false true false e = sym e
diff_false false b e = refl

-- the first so many clocks of the path are those that are held behind the walk and weren't before
pub begins_held : (links : List (Option ClockId)) (own less own' more : List ℕ) (c k : ℕ) → LinksEnd links → AreSums links own less → AreSums links own' more
    → Begins links less more c k
    → (d : ℕ) → is_in d (path_within (up_in links) k c) ≡ (is_held links (λ x. get_or own' x 0) d && not (is_held links (λ x. get_or own x 0) d))
begins_held links own less own' more c k end_ before after begins d =
    elim (is_in d (path_within (up_in links) k c)) as (λ t. is_in d (path_within (up_in links) k c) ≡ t → t ≡ (is_held links (λ x. get_or own' x 0) d && not (is_held links (λ x. get_or own x 0) d))) [
      | true ↦ λ e.
          diff_true (is_held links (λ x. get_or own' x 0) d) (is_held links (λ x. get_or own x 0) d)
          (sym (counts_held links own' more end_ after d) ∙ true_counts (get_or more d 0) (begins.on d e))
          (sym (counts_held links own less end_ before d) ∙ ap (nat_lt 0) (begins.off d e))
      | false ↦ λ e.
          diff_false (is_held links (λ x. get_or own' x 0) d) (is_held links (λ x. get_or own x 0) d)
          (sym (counts_held links own' more end_ after d) ∙ begins.others d e ∙ counts_held links own less end_ before d)
    ] refl

-- ---- what the fields keep

module _ {links : List (Option ClockId)} {gated : List Bool} {en pr ex enc prc po pc : List ℕ} where
  -- other prepare holders
  pub counted_prepares : (pr' prc' po' pc' : List ℕ) → IsCounted links gated en pr ex enc prc po pc → AreFew pr' → AreSums links pr' prc' → AreSums links po' pc' → Grows gated po prc po' prc'
      → IsCounted links gated en pr' ex enc prc' po' pc'
  counted_prepares pr' prc' po' pc' k few sums protects grown = record {
    most = k.most;
    lines = k.lines;
    inside = k.inside;
    flags = k.flags;
    enable_few = k.enable_few;
    prepare_few = few;
    exclusive_few = k.exclusive_few;
    exclusive_size = k.exclusive_size;
    enable_sums = k.enable_sums;
    prepare_sums = sums;
    protect_sums = protects;
    coupled = λ d. let before = k.coupled d in let more = grown d in omega arith;
  }

  -- other exclusive holders
  pub counted_exclusives : (ex' po' pc' : List ℕ) → IsCounted links gated en pr ex enc prc po pc → AreFew ex' → length ex' ≡ length links → AreSums links po' pc'
      → ((d : ℕ) → get_or po' d 0 + get_or ex d 0 ≡ get_or po d 0 + get_or ex' d 0) → IsCounted links gated en pr ex' enc prc po' pc'
  counted_exclusives ex' po' pc' k few size protects same = record {
    most = k.most;
    lines = k.lines;
    inside = k.inside;
    flags = k.flags;
    enable_few = k.enable_few;
    prepare_few = k.prepare_few;
    exclusive_few = few;
    exclusive_size = size;
    enable_sums = k.enable_sums;
    prepare_sums = k.prepare_sums;
    protect_sums = protects;
    coupled = λ d. let before = k.coupled d in let more = same d in omega arith;
  }

-- one holder more of a clock that hadn't the most
pub few_added : (own : List ℕ) (c v : ℕ) → AreFew own → c < length own → get_or own c 0 < 8388608 → v ≡ get_or own c 0 → AreFew (set own c (v + 1))
few_added own c v few within room is d =
    let before = few d in
    let more = count-more own c d within in
    let same : get_or (set own c (v + 1)) d 0 ≡ get_or own d 0 + one c d = ap (λ (n : ℕ). get_or (set own c (n + 1)) d 0) is ∙ more in
    elim (nat_eq c d) as (λ t. nat_eq c d ≡ t → get_or (set own c (v + 1)) d 0 ≤ 8388608) [
      | true ↦ λ e.
          let added : one c d ≡ 1 = ap (λ (t : Bool). cond t 1 0) e in
          let here : get_or own c 0 ≡ get_or own d 0 = ap (λ (x : ℕ). get_or own x 0) (same_from_test c d e) in
          omega arith
      | false ↦ λ e. let added : one c d ≡ 0 = ap (λ (t : Bool). cond t 1 0) e in omega arith
    ] refl

-- one holder less
pub few_taken : (own : List ℕ) (c v : ℕ) (links : List (Option ClockId)) → AreFew own → length links ≡ length own → c < length own → get_or own c 0 ≡ v + 1 → AreFew (set own c v)
few_taken own c v links few size within is d =
    let before = few d in
    let less = (steps_down links own c v size within is).counts d in
    omega arith

-- ---- the three counts

-- a flag outside of the description
pub past_flag : (defs : Description) (d : ℕ) → length defs ≤ d → sets_rate_gate defs d ≡ false
past_flag defs d past = ap (λ (def : ClockDef). has_flag def.flags 1) (get_or_past defs d nobody past)

pub flags_all : (defs : Description) (gated : List Bool) → length gated ≡ length defs → ((d : ℕ) → d < length defs → get_or gated d false ≡ sets_rate_gate defs d)
    → (d : ℕ) → get_or gated d false ≡ sets_rate_gate defs d
flags_all defs gated size flags d =
    ⊎_elim
    (λ (within : d < length defs). flags d within)
    (λ (past : length defs ≤ d). get_or_past gated d false (omega arith) ∙ sym (past_flag defs d past))
    (cases_lt d (length defs))

-- a clock without a link
abbrev pub none_link : Unit {0} → Option ClockId
none_link t = None

-- no holder of so many clocks
abbrev pub blank : ℕ → List ℕ
blank n = replicate n 0

none_of : (n d : ℕ) → get_or (blank n) d 0 ≡ 0
none_of zero d = refl
none_of (suc n) zero = refl
none_of (suc n) (suc d) = none_of n d

pub nowhere : (n d : ℕ) → get_or (replicate n (none_link tt)) d None ≡ None
nowhere zero d = refl
nowhere (suc n) zero = refl
nowhere (suc n) (suc d) = nowhere n d

no_kids : (n d : ℕ) → kids (replicate n (none_link tt)) (blank n) d ≡ 0
no_kids zero d = refl
no_kids (suc n) d = let rest = no_kids n d in omega arith

-- counts of nobody are sums
nobody_sums : (n : ℕ) → AreSums (replicate n (none_link tt)) (blank n) (blank n)
nobody_sums n = record {
  owned = length-replicate n 0 ∙ sym (length-replicate n (none_link tt));
  counted = length-replicate n 0 ∙ sym (length-replicate n (none_link tt));
  sums = λ d. let own = none_of n d in let children = no_kids n d in omega arith;
}

few_nobody : (n : ℕ) → AreFew (blank n)
few_nobody n d = let none = none_of n d in omega arith

-- at the making nobody holds a clock
pub counted_nobody : (words : ℕ) (defs : Description) (n : ℕ) (gated : List Bool) → IsValid words defs → n ≡ length defs → length gated ≡ length defs
    → IsCounted (replicate n (none_link tt)) gated (blank n) (blank n) (blank n) (blank n) (blank n) (blank n) (blank n)
counted_nobody words defs n gated valid size flags =
    let long = length-replicate n (none_link tt) in
    let most = length-valid words defs valid in
    record {
      most = omega arith;
      lines = λ c. lines_under (parents_of defs) (replicate n (none_link tt)) depth c (λ d p e. absurd (unlinked d p e)) (lines_end words defs valid c);
      inside = λ d p e. absurd (unlinked d p e);
      flags = flags ∙ sym (long ∙ size);
      enable_few = few_nobody n;
      prepare_few = few_nobody n;
      exclusive_few = few_nobody n;
      exclusive_size = length-replicate n 0 ∙ sym long;
      enable_sums = nobody_sums n;
      prepare_sums = nobody_sums n;
      protect_sums = nobody_sums n;
      coupled = coupled;
    } where
      unlinked : (d p : ℕ) → up_in (replicate n (none_link tt)) d ≡ Some p → ⊥
      unlinked d p e = gone p (sym (ap (option_map (λ (q : ClockId). q.0)) (nowhere n d)) ∙ e) where
        gone : (q : ℕ) → None ≡ Some q → ⊥
        gone q f = cc

      coupled : (d : ℕ) → get_or (blank n) d 0 ≡ get_or (blank n) d 0 + gated_part gated (blank n) d
      coupled d =
          let part : gated_part gated (blank n) d ≡ 0 = ap (λ (m : ℕ). cond (get_or gated d false) m 0) (none_of n d) ∙ nothing (get_or gated d false) 0 refl in
          omega arith where
            nothing : (t : Bool) (m : ℕ) → m ≡ 0 → cond t m 0 ≡ 0
            nothing true m e = e
            nothing false m e = refl

-- protections are small
pub own_small : {links : List (Option ClockId)} {gated : List Bool} {en pr ex enc prc po pc : List ℕ} → IsCounted links gated en pr ex enc prc po pc → (d : ℕ) → get_or po d 0 ≤ 16781312
own_small {links} {gated} {en} {pr} {ex} {enc} {prc} {po} {pc} k d =
    let whole = k.coupled d in
    let exclusive = k.exclusive_few d in
    let part = part-le gated prc d in
    let prepared = sums_small links pr prc d 8388608 k.prepare_sums k.most (k.prepare_few d) in
    omega arith

-- the three counts are the definitions'
pub protect_own_is : {links : List (Option ClockId)} {gated : List Bool} {en pr ex enc prc po pc : List ℕ} → IsCounted links gated en pr ex enc prc po pc
    → (d : ℕ) → get_or po d 0 ≡ protect_own (record { gated = gated; links = links; enables = en; prepares = pr; exclusives = ex }) d
protect_own_is {links} {gated} {en} {pr} {ex} {enc} {prc} {po} {pc} k d =
    k.coupled d
    ∙ ap (λ (m : ℕ). get_or ex d 0 + cond (get_or gated d false) m 0) (counts_sum links pr prc k.lines k.prepare_sums d)

-- what the fields keep, all counts keep
pub counts_stand : {links : List (Option ClockId)} {gated : List Bool} {en pr ex enc prc po pc : List ℕ} → IsCounted links gated en pr ex enc prc po pc
    → AreCounts (record { gated = gated; links = links; enables = en; prepares = pr; exclusives = ex })
counts_stand k = record {
  gated = k.flags;
  enables = k.enable_sums.owned;
  prepares = k.prepare_sums.owned;
  exclusives = k.exclusive_size;
  lines = k.lines;
}

-- the same lists keep the same
pub counted_same : {links links' : List (Option ClockId)} {gated : List Bool} {en en' pr pr' ex ex' enc enc' prc prc' po po' pc pc' : List ℕ}
    → links' ≡ links → en' ≡ en → pr' ≡ pr → ex' ≡ ex → enc' ≡ enc → prc' ≡ prc → po' ≡ po → pc' ≡ pc
    → IsCounted links gated en pr ex enc prc po pc → IsCounted links' gated en' pr' ex' enc' prc' po' pc'
counted_same {links} {links'} {gated} {en} {en'} {pr} {pr'} {ex} {ex'} {enc} {enc'} {prc} {prc'} {po} {po'} {pc} {pc'} b c d e f g h i k =
    let k2 = subst (λ (x : List (Option ClockId)). IsCounted x gated en pr ex enc prc po pc) (sym b) k in
    let k3 = subst (λ (x : List ℕ). IsCounted links' gated x pr ex enc prc po pc) (sym c) k2 in
    let k4 = subst (λ (x : List ℕ). IsCounted links' gated en' x ex enc prc po pc) (sym d) k3 in
    let k5 = subst (λ (x : List ℕ). IsCounted links' gated en' pr' x enc prc po pc) (sym e) k4 in
    let k6 = subst (λ (x : List ℕ). IsCounted links' gated en' pr' ex' x prc po pc) (sym f) k5 in
    let k7 = subst (λ (x : List ℕ). IsCounted links' gated en' pr' ex' enc' x po pc) (sym g) k6 in
    let k8 = subst (λ (x : List ℕ). IsCounted links' gated en' pr' ex' enc' prc' x pc) (sym h) k7 in
    subst (λ (x : List ℕ). IsCounted links' gated en' pr' ex' enc' prc' po' x) (sym i) k8
