-- The gates that follow an enable more or less are those of the first clocks of its path.
use Rattle.std.proofs.Common.{◌≡◌, ◌≢◌, ℕ, ◌+◌, ◌<◌, ◌&&◌, Bool, true, false, not, List, Option, Some, None, refl, sym, ap, subst, ◌∙◌, arith, length, nat_lt}
use Rattle.std.proofs.Math.Path.{fun_ext}
use Rattle.std.specs.Prelude.{is_some, reverse}
use Rattle.std.specs.Option.{option_map}
use Rattle.std.proofs.lemmas.Bool.Decides.{nat_tests}
use Rattle.std.proofs.Math.Bool.{or-false}
use Rattle.clk_base.specs.Description.{Description}
use Rattle.reg_bank.specs.Registers.{Registers, AreWords}
use Rattle.clk_model.specs.declared.row.HandleRow.{HandleRow}
use Rattle.clk_model.specs.Lists.{is_in, count_from}
use Rattle.clk_model.specs.State.{State, registered, link_in, handle_at}
use Rattle.clk_model.specs.Tree.{path_within}
use Rattle.clk_model.specs.Holders.{active}
use Rattle.clk_model.specs.Gates.{gates_moved, settled}
use Rattle.clk_model.specs.Begin.{put_handle}
use Rattle.clk_model.proofs.HolderLaws.{is_under}
use Rattle.clk_model.proofs.Members.{is_in-count_from, is_in-reverse, both_left, or_left}
use Rattle.clk_model.proofs.GateLaws.{GatesLie, gates_moved-lists, gates_moved-before, gates_moved-alike}
use Rattle.clk_model.proofs.StateLaws.{active-put_more, active-put_less}
use Rattle.counts_core.specs.Sums.{up_in}
use Rattle.counts_core.specs.Counted.{CountState, is_active}
use Rattle.counts_core.proofs.Standing.{tells_holds}
use Rattle.rate_requests.specs.Handles.{HandleTable}
use Rattle.core_parts.specs.Window.{Shown, AreTold}
use Rattle.clk_machine.specs.Holding.{enabled_more, puts}
use Rattle.core_parts.specs.Tied.{AreTied}
use Rattle.clk_machine.specs.Parts.{Parts, IsWhole}
use Rattle.clk_machine.specs.Stands.{Stands, Becomes, nothing}
use Rattle.core_parts.proofs.Shapes.{gates_lie}
use Rattle.core_parts.proofs.Moving.{path_within_desc, tied-moved}
use Rattle.clk_machine.proofs.Writing.{counts_stand, Written, with_written, written_stands, stands_written, live_in}

-- ---- gates of some clocks among those of all

-- where these clocks are those that became active, and none stopped, their gates open and no other moves
pub opens_all : (defs : Description) (before after : ℕ → Bool) (cs : List ℕ) (regs : Registers) → AreWords regs → GatesLie defs (count_from 0 (length defs)) (length regs)
    → ((c : ℕ) → is_in c cs ≡ true → c < length defs) → ((c : ℕ) → is_in c cs ≡ (after c && not (before c))) → ((c : ℕ) → before c ≡ true → after c ≡ true)
    → gates_moved defs before after (count_from 0 (length defs)) regs ≡ gates_moved defs (λ _. false) (λ _. true) cs regs
opens_all defs before after cs regs words lie within began grows =
    gates_moved-lists defs before after (count_from 0 (length defs)) cs regs words lie
    (λ c m. is_in-count_from c 0 (length defs) (omega arith) (let below : c < length defs = within c m in omega arith))
    (λ c m other. began c ∙ changed (before c) (after c) other (grows c))
    ∙ gates_moved-before defs before (λ _. false) after cs regs (λ c m. off (before c) (after c) (sym (began c) ∙ m))
    ∙ gates_moved-alike defs (λ _. false) after (λ _. true) cs regs (λ c m. both_left (after c) (not (before c)) (sym (began c) ∙ m)) where
      changed : (a b : Bool) → a ≢ b → (a ≡ true → b ≡ true) → (b && not a) ≡ true
      changed true b other grow = absurd (other (sym (grow refl)))
      changed false true other grow = refl
      changed false false other grow = absurd (other refl)

      off : (a b : Bool) → (b && not a) ≡ true → a ≡ false
      off true true e = absurd cc
      off true false e = absurd cc
      off false b e = refl

-- where they are those that are no longer active, and none became so, their gates close
pub closes_all : (defs : Description) (before after : ℕ → Bool) (cs : List ℕ) (regs : Registers) → AreWords regs → GatesLie defs (count_from 0 (length defs)) (length regs)
    → ((c : ℕ) → is_in c cs ≡ true → c < length defs) → ((c : ℕ) → is_in c cs ≡ (before c && not (after c))) → ((c : ℕ) → after c ≡ true → before c ≡ true)
    → gates_moved defs before after (count_from 0 (length defs)) regs ≡ gates_moved defs (λ _. true) (λ _. false) (reverse cs) regs
closes_all defs before after cs regs words lie within stopped shrinks =
    gates_moved-lists defs before after (count_from 0 (length defs)) (reverse cs) regs words lie
    (λ c m. is_in-count_from c 0 (length defs) (omega arith) (let below : c < length defs = within c (there c m) in omega arith))
    (λ c m other. is_in-reverse c cs ∙ stopped c ∙ changed (before c) (after c) other (shrinks c))
    ∙ gates_moved-before defs before (λ _. true) after (reverse cs) regs (λ c m. both_left (before c) (not (after c)) (sym (stopped c) ∙ there c m))
    ∙ gates_moved-alike defs (λ _. true) after (λ _. false) (reverse cs) regs (λ c m. off (after c) (before c) (sym (stopped c) ∙ there c m)) where
      there : (c : ℕ) → is_in c (reverse cs) ≡ true → is_in c cs ≡ true
      there c m = sym (is_in-reverse c cs) ∙ m

      changed : (a b : Bool) → a ≢ b → (b ≡ true → a ≡ true) → (a && not b) ≡ true
      changed true true other shrink = absurd (other refl)
      changed true false other shrink = refl
      changed false true other shrink = absurd (other (shrink refl))
      changed false false other shrink = absurd (other refl)

      off : (a b : Bool) → (b && not a) ≡ true → a ≡ false
      off true true e = absurd cc
      off true false e = absurd cc
      off false b e = refl

-- ---- words that are told

pub told_mapped : (f : List ℕ → List ℕ) (o : Option (List ℕ)) → is_some (option_map f o) ≡ is_some o
told_mapped f None = refl
told_mapped f (Some ws) = refl

-- what a state has of words, where whole parts stand for it
pub regs_told : (m : Parts) (s : State) → IsWhole m → Stands m s → AreWords s.regs × (length s.regs ≡ m.window.size)
regs_told m s whole stands = subst (λ (o : Option (List ℕ)). AreTold m.window.size o) stands.regs whole.tied.told

-- the gates of all clocks lie in them
pub regs_lie : (m : Parts) (s : State) → IsWhole m → Stands m s → GatesLie s.defs (count_from 0 (length s.defs)) (length s.regs)
regs_lie m s whole stands =
    subst (λ (n : ℕ). GatesLie s.defs (count_from 0 (length s.defs)) n) (sym ((regs_told m s whole stands).1 ∙ whole.tied.words))
    (subst (λ (d : Description). GatesLie d (count_from 0 (length d)) m.desc.words) (sym stands.defs) (gates_lie m.desc.words m.desc.defs whole.tied.valid))

-- the links of the counts are those of the tree
pub links_are : (m : Parts) → IsWhole m → link_in m.tree.clocks ≡ up_in m.counts.links
links_are m whole = fun_ext (λ c. whole.counted.stands.links c)

-- the first clocks of the path of a handle's clock are clocks of the description
path_clocks : (m : Parts) (s : State) (levels n : ℕ) (row : HandleRow) → IsWhole m → Stands m s → handle_at m.table.handles n ≡ Some row
    → (c : ℕ) → is_in c (path_within (link_in m.tree.clocks) levels row.clock.0) ≡ true → c < length s.defs
path_clocks m s levels n row whole stands live c inside =
    subst (λ (d : Description). c < length d) (sym stands.defs)
    (path_within_desc m.desc m.window m.tree levels row.clock.0 whole.tied (whole.handled n row live) c inside)

-- ---- one enable more or less

positive : (k : ℕ) → nat_lt 0 (k + 1) ≡ true
positive k = grind (arith, nat_tests)

pub lists_alike : (a b a' b' : Bool) → a ≡ a' → b ≡ b' → (a && not b) ≡ (a' && not b')
lists_alike a b a' b' e f = ap (λ (t : Bool). t && not b) e ∙ ap (λ (t : Bool). a' && not t) f

module _ (old : Parts) (n levels : ℕ) (row new : HandleRow) (window' : Shown) (table' : HandleTable) (counts' : CountState)
    (whole : IsWhole old) (written : Written old n row new table' counts') (size : window'.size ≡ old.window.size) (behind : window'.behind ≡ old.window.behind) (locks : window'.locks ≡ old.window.locks) where
  abbrev pub cs : List ℕ
  cs = path_within (link_in old.tree.clocks) levels row.clock.0

  counted_cs : path_within (up_in old.counts.links) levels row.clock.0 ≡ cs
  counted_cs = ap (λ (up : ℕ → Option ℕ). path_within up levels row.clock.0) (sym (links_are old whole))

  active_old : (s : State) → Stands old s → (d : ℕ) → is_active old.counts d ≡ active s d
  active_old s stands d = (tells_holds old.counts s whole.counted.keeps (counts_stand old s whole stands) d).active

  active_new : (s : State) → Stands old s → (d : ℕ) → is_active counts' d ≡ active (put_handle s n (Some new)) d
  active_new s stands d =
      (tells_holds counts' (put_handle s n (Some new)) written.keeps
      (written_stands old n row new table' counts' s written (counts_stand old s whole stands) (live_in old s n row stands written.live)) d).active

  -- whichever gates move, that is what is done to the state
  becomes_moved : (before after : ℕ → Bool) (xs : List ℕ) → window'.words ≡ option_map (gates_moved old.desc.defs before after xs) old.window.words
      → ((s : State) → Stands old s → gates_moved s.defs (active s) (active (put_handle s n (Some new))) (count_from 0 (length s.defs)) s.regs ≡ gates_moved s.defs before after xs s.regs)
      → Becomes old nothing (puts n (Some new)) (with_written old window' table' counts')
  unfolding settled
  becomes_moved before after xs words follows = record {
    remains = record { desc = refl; told = ap (λ (o : Option (List ℕ)). is_some o) words ∙ told_mapped _ old.window.words; size = size; behind = behind; credits = refl; ignore_unused = refl };
    spent = refl;
    flight = refl;
    locks = locks;
    left = refl;
    steps = refl;
    rows = λ c. sym (or-false (registered old.tree.clocks c));
    stands = λ s stands sound.
        subst (λ (regs : List ℕ). Stands (with_written old window' table' counts') (record (put_handle s n (Some new)) { regs = regs; spent = s.spent + 1 }))
        (sym (follows s stands))
        (stands_written old n row new window' table' counts' s (gates_moved s.defs before after xs s.regs) written stands
        (words ∙ ap (option_map (gates_moved old.desc.defs before after xs)) stands.regs
        ∙ ap (λ (d : Description). Some (gates_moved d before after xs s.regs)) (sym stands.defs)));
  }

  pub becomes_opened : new ≡ enabled_more row → ((d : ℕ) → is_in d (path_within (up_in old.counts.links) levels row.clock.0) ≡ (is_active counts' d && not (is_active old.counts d)))
      → window'.words ≡ option_map (gates_moved old.desc.defs (λ _. false) (λ _. true) cs) old.window.words
      → Becomes old nothing (puts n (Some new)) (with_written old window' table' counts')
  becomes_opened more began words =
      becomes_moved (λ _. false) (λ _. true) cs words
      (λ s stands.
      opens_all s.defs (active s) (active (put_handle s n (Some new))) cs s.regs (regs_told old s whole stands).0 (regs_lie old s whole stands)
      (path_clocks old s levels n row whole stands written.live)
      (λ d. ap (is_in d) (sym counted_cs) ∙ began d ∙ lists_alike _ _ _ _ (active_new s stands d) (active_old s stands d))
      (λ d was.
      active-put_more s n row new d (live_in old s n row stands written.live) written.clock (ap (λ (h : HandleRow). nat_lt 0 h.enables) more ∙ positive row.enables)
      ∙ or_left (active s d) (is_under s.clocks row d) was))

  pub becomes_closed : 0 < row.enables → ((d : ℕ) → is_in d (path_within (up_in old.counts.links) levels row.clock.0) ≡ (is_active old.counts d && not (is_active counts' d)))
      → window'.words ≡ option_map (gates_moved old.desc.defs (λ _. true) (λ _. false) (reverse cs)) old.window.words
      → Becomes old nothing (puts n (Some new)) (with_written old window' table' counts')
  becomes_closed some stopped words =
      becomes_moved (λ _. true) (λ _. false) (reverse cs) words
      (λ s stands.
      closes_all s.defs (active s) (active (put_handle s n (Some new))) cs s.regs (regs_told old s whole stands).0 (regs_lie old s whole stands)
      (path_clocks old s levels n row whole stands written.live)
      (λ d. ap (is_in d) (sym counted_cs) ∙ stopped d ∙ lists_alike _ _ _ _ (active_old s stands d) (active_new s stands d))
      (λ d is.
      active-put_less s n row new d (live_in old s n row stands written.live) written.clock (grind (arith, nat_tests))
      ∙ or_left (active (put_handle s n (Some new)) d) (is_under s.clocks row d) is))

-- the words and the tree go on with each other
pub tied_opened : (old : Parts) (n levels : ℕ) (row : HandleRow) (window' : Shown) → IsWhole old → handle_at old.table.handles n ≡ Some row → window'.size ≡ old.window.size
    → window'.words ≡ option_map (gates_moved old.desc.defs (λ _. false) (λ _. true) (path_within (link_in old.tree.clocks) levels row.clock.0)) old.window.words
    → AreTied old.desc window' old.tree
tied_opened old n levels row window' whole live size words =
    tied-moved old.desc old.window window' old.tree (λ _. false) (λ _. true) (path_within (link_in old.tree.clocks) levels row.clock.0) whole.tied
    (path_within_desc old.desc old.window old.tree levels row.clock.0 whole.tied (whole.handled n row live)) size words

pub tied_closed : (old : Parts) (n levels : ℕ) (row : HandleRow) (window' : Shown) → IsWhole old → handle_at old.table.handles n ≡ Some row → window'.size ≡ old.window.size
    → window'.words ≡ option_map (gates_moved old.desc.defs (λ _. true) (λ _. false) (reverse (path_within (link_in old.tree.clocks) levels row.clock.0))) old.window.words
    → AreTied old.desc window' old.tree
tied_closed old n levels row window' whole live size words =
    tied-moved old.desc old.window window' old.tree (λ _. true) (λ _. false) (reverse (path_within (link_in old.tree.clocks) levels row.clock.0)) whole.tied
    (λ c m. path_within_desc old.desc old.window old.tree levels row.clock.0 whole.tied (whole.handled n row live) c
    (sym (is_in-reverse c (path_within (link_in old.tree.clocks) levels row.clock.0)) ∙ m)) size words
