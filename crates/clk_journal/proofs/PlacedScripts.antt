-- The steps of each script name clocks of the description.
use Rattle.std.proofs.Common.{◌≡◌, ℕ, zero, suc, ◌<◌, ◌&&◌, Bool, true, false, not, cond, List, [], ◌∷◌, ◌++◌, Option, Some, None, refl, subst, map, length}
use Rattle.std.specs.Prelude.{◌==◌, filter, flat_map, slice_index, if◌then◌else◌}
use Rattle.std.specs.List.{AllByRecursion, list_any}
use Rattle.std.specs.Option.{option_map_or}
use Rattle.clk_base.specs.declared.call.Micro.{Micro}
use Rattle.clk_base.specs.declared.call.Micro.TheVariants as micro
use Rattle.clk_base.specs.declared.call.Notice.TheVariants as notice
use Rattle.clk_base.specs.declared.call.Sleeping.{Sleeping}
use Rattle.clk_base.specs.declared.call.Sleeping.TheVariants as call
use Rattle.clk_base.specs.Description.{kind_of, parents_of}
use Rattle.clk_base.specs.Flags.{is_critical, ignores_unused, runs_parent, runs_to_set}
use Rattle.clk_base.specs.Levels.{depth}
use Rattle.clk_model.specs.Lists.{is_in, is_at}
use Rattle.clk_model.specs.State.{State, ChainStep, NotifierRow, registered, link_in}
use Rattle.clk_model.specs.Tree.{children, roots, orphans, is_orphan, link_given, path_within, path, path_to_be}
use Rattle.clk_model.specs.Kinds.{is_fixed, has_setting}
use Rattle.clk_model.specs.Holders.{active, prepared}
use Rattle.clk_model.specs.Round.{Wiring, wiring}
use Rattle.clk_model.specs.Chain.{clock_id, moves, outcome, place_of}
use Rattle.clk_model.specs.Walk.{top_of, moves_away, movers_to, kids_after, below_within, walk, differs, changing, rates_in}
use Rattle.clk_model.specs.Notices.{Rates, vetoes, notifiers_of, until_veto, is_veto, pre_list, abort_list, post_list}
use Rattle.clk_model.specs.Script.{planned, unfeed, fed_step, runs_for, visit_of, close_of, move, move_of, adoption, adoptable, adoption_order, probe_script, tree_within, sweep_order, lets_through, runs, sweep_script}
use Rattle.clk_model.specs.Step.{cut_short, from_first, behind_first, behind_lets, first_alone, lets_go, is_end, is_register, is_settle, is_close, is_visit}
use Rattle.clk_model.specs.Laws.Plans.{LeadsFrom, LeadsUp, HasParent}
use Rattle.clk_model.proofs.PathLaws.{path_all}
use Rattle.clk_model.proofs.PllLaws.{link_given_possible}
use Rattle.clk_model.proofs.AdoptGoLaws.{ordered_in}
use Rattle.clk_model.proofs.ProbeGoLaws.{can_adopt}
use Rattle.clk_journal.specs.Sized.{clocks_in_step}
use Rattle.clk_journal.proofs.PlacedClocks.{ArePlaced, AreNamed, StepsName, none_placed, one_more, both_placed, chosen_placed, each_placed, both_name, either_names, map_names, map_in_names, flat_names}

-- a tree of so many clocks: links and possible parents are among them, and so is what the order of attaching lists
pub record IsTree (n : ℕ) (s : State) : Type 0 where
  pub links : (c p : ℕ) → link_in s.clocks c ≡ Some p → p < n
  pub parents : (c p : ℕ) → is_in p (parents_of s.defs c) ≡ true → p < n
  pub order : ArePlaced n s.order

-- ---- notices

pre_names : (n : ℕ) (rates : Rates) (c : ℕ) (ns : List NotifierRow) → c < n → StepsName n (until_veto rates c ns)
pre_names n rates c [] low = tt
pre_names n rates c (m ∷ ms) low =
    ((low, tt), either_names n (vetoes m.policy (slice_index rates.outcome c)) [] (until_veto rates c ms) tt (pre_names n rates c ms low))

pub pres_name : (n : ℕ) (rates : Rates) (ns : List NotifierRow) (cs : List ℕ) → ArePlaced n cs → StepsName n (pre_list rates ns cs)
pres_name n rates ns cs all = flat_names n (λ c. until_veto rates c (notifiers_of ns c)) cs (λ c m. pre_names n rates c (notifiers_of ns c) (all c m))

pub aborts_name : (n : ℕ) (rates : Rates) (ns : List NotifierRow) (cs : List ℕ) → ArePlaced n cs → StepsName n (abort_list rates ns cs)
aborts_name n rates ns cs all =
    flat_names n (λ c. map (λ m. micro.Notify notice.Abort (clock_id c) m.id (slice_index rates.before c) (slice_index rates.outcome c)) (notifiers_of ns c)) cs
    (λ c m. map_names n (λ (r : NotifierRow). micro.Notify notice.Abort (clock_id c) r.id (slice_index rates.before c) (slice_index rates.outcome c)) (notifiers_of ns c) (λ r. (all c m, tt)))

pub posts_name : (n : ℕ) (rates : Rates) (ns : List NotifierRow) (c : ℕ) → c < n → StepsName n (post_list rates ns c)
posts_name n rates ns c low =
    map_names n (λ (r : NotifierRow). micro.Notify notice.Post (clock_id c) r.id (slice_index rates.before c) (slice_index rates.outcome c)) (notifiers_of ns c) (λ r. (low, tt))

-- what a timeout leaves of a script
from_names : (n : ℕ) (test : Micro → Bool) (ms : List Micro) → StepsName n ms → StepsName n (from_first test ms)
from_names n test [] all = tt
from_names n test (m ∷ ms) all = either_names n (test m) (m ∷ ms) (from_first test ms) all (from_names n test ms all.1)

after_names : (n : ℕ) (test : Micro → Bool) (ms : List Micro) → StepsName n ms → StepsName n (behind_first test ms)
after_names n test [] all = tt
after_names n test (m ∷ ms) all = either_names n (test m) ms (behind_first test ms) all.1 (after_names n test ms all.1)

lets_names : (n : ℕ) (ms : List Micro) → StepsName n ms → StepsName n (behind_lets ms)
lets_names n [] all = tt
lets_names n (m ∷ ms) all = either_names n (lets_go m) (behind_lets ms) (m ∷ ms) (lets_names n ms all.1) all

alone_names : (n : ℕ) (ms : List Micro) → StepsName n ms → StepsName n (first_alone ms)
alone_names n [] all = tt
alone_names n (m ∷ ms) all = (all.0, lets_names n ms all.1)

pub cut_names : (n : ℕ) (what : Sleeping) (ms : List Micro) → StepsName n ms → StepsName n (cut_short what ms)
cut_names n (call.Prepare h) ms all = from_names n is_end ms all
cut_names n (call.SetParent h p) ms all = from_names n is_end ms all
cut_names n (call.Probe c) ms all =
    either_names n (list_any is_register ms) (from_first is_end ms) (behind_first is_settle ms) (from_names n is_end ms all) (after_names n is_settle ms all)
cut_names n call.Sweep ms all = lets_names n (behind_first is_close ms) (after_names n is_close ms all)
cut_names n _ ms all = alone_names n (from_first is_visit ms) (from_names n is_visit ms all)

-- ---- plans

-- a step of a chain is of a clock of the description, and so is its planned parent
abbrev pub IsPlacedStep : ℕ → ChainStep → Type 0
IsPlacedStep n k = (k.clock < n) × ((p : ℕ) → k.parent ≡ Some p → p < n)

-- a chain has a step, and each is so
pub record IsPlacedChain (n : ℕ) (ks : List ChainStep) : Type 0 where
  pub steps : AllByRecursion (IsPlacedStep n) ks
  pub top : top_of ks < n

-- one that leads upwards from a clock of the description
chain_up : (n : ℕ) (w : Wiring) (k : ChainStep) (ks : List ChainStep) → ((c p : ℕ) → is_in p (parents_of w.defs c) ≡ true → p < n) → k.clock < n → LeadsUp (k ∷ ks)
    → AllByRecursion (HasParent w) (k ∷ ks) → AllByRecursion (IsPlacedStep n) (k ∷ ks) × (top_of (k ∷ ks) < n)
chain_up n w k [] parents low up has = (((low, λ p at. parents k.clock p (has.0.possible p at)), tt), low)
chain_up n w k (l ∷ ks) parents low up has =
    let rest = chain_up n w l ks parents (parents k.clock l.clock (has.0.possible l.clock up.0)) up.1 has.1 in
    (((low, λ p at. parents k.clock p (has.0.possible p at)), rest.0), rest.1)

pub chain_placed : (n : ℕ) (w : Wiring) (c : ℕ) (ks : List ChainStep) → ((d p : ℕ) → is_in p (parents_of w.defs d) ≡ true → p < n) → c < n → LeadsFrom w c ks → IsPlacedChain n ks
chain_placed n w c [] parents low leads = let no : None ≡ Some c = leads.first in absurd cc
chain_placed n w c (k ∷ ks) parents low leads =
    let first : Some k.clock ≡ Some c = leads.first in
    let same : c ≡ k.clock = cc in
    let h = chain_up n w k ks parents (subst (λ (x : ℕ). x < n) same low) leads.leads leads.parents in
    record { steps = h.0; top = h.1 }

-- the clocks to be moved are of the chain
movers_placed : (n : ℕ) (test : ChainStep → Bool) (ks : List ChainStep) → AllByRecursion (IsPlacedStep n) ks → ArePlaced n (map (λ k. k.clock) (filter test ks))
movers_placed n test [] all = none_placed n
movers_placed n test (k ∷ ks) all = by (test k) (movers_placed n test ks all.1) where
  by : (b : Bool) → ArePlaced n (map (λ (l : ChainStep). l.clock) (filter test ks)) → ArePlaced n (map (λ (l : ChainStep). l.clock) (cond b (k ∷ filter test ks) (filter test ks)))
  by true rest = one_more n k.clock (map (λ (l : ChainStep). l.clock) (filter test ks)) all.0.0 rest
  by false rest = rest

-- a clock and all below it
below_placed : (n : ℕ) (kids : ℕ → List ℕ) (levels c : ℕ) → ((p : ℕ) → ArePlaced n (kids p)) → c < n → ArePlaced n (below_within kids levels c)
below_placed n kids zero c each low = none_placed n
below_placed n kids (suc levels) c each low =
    one_more n c (flat_map (below_within kids levels) (kids c)) low
    (each_placed n (below_within kids levels) (kids c) (λ x m. below_placed n kids levels x each (each c x m)))

module _ (n : ℕ) (s : State) (tree : IsTree n s) where
  kids_placed : (ks : List ChainStep) → AllByRecursion (IsPlacedStep n) ks → (p : ℕ) → ArePlaced n (kids_after s.order s.clocks ks p)
  kids_placed ks all p =
      both_placed n (filter (λ c. not (moves_away s.clocks ks c)) (children s.order s.clocks p)) (movers_to s.clocks ks p)
      (chosen_placed n (λ c. not (moves_away s.clocks ks c)) (children s.order s.clocks p) (chosen_placed n (λ c. is_at p (link_in s.clocks c)) s.order tree.order))
      (movers_placed n (λ k. is_at p k.parent && moves s.clocks k) ks all)

  walk_placed : (ks : List ChainStep) → IsPlacedChain n ks → ArePlaced n (walk s.order (wiring s) ks)
  unfolding walk
  walk_placed ks chain = below_placed n (kids_after s.order s.clocks ks) depth (top_of ks) (kids_placed ks chain.steps) chain.top

  pub changing_placed : (ks : List ChainStep) → IsPlacedChain n ks → ArePlaced n (changing s.order (wiring s) ks)
  unfolding changing
  changing_placed ks chain = by (differs (wiring s) ks (top_of ks)) where
    by : (b : Bool) → ArePlaced n (cond b (below_within (λ p. filter (differs (wiring s) ks) (kids_after s.order s.clocks ks p)) depth (top_of ks)) [])
    by true =
        below_placed n (λ p. filter (differs (wiring s) ks) (kids_after s.order s.clocks ks p)) depth (top_of ks)
        (λ p. chosen_placed n (differs (wiring s) ks) (kids_after s.order s.clocks ks p) (kids_placed ks chain.steps p)) chain.top
    by false = none_placed n

  -- a step within what keeps a clock running for it
  fed_names : (o : Option ℕ) (m : Micro) → ((x : ℕ) → o ≡ Some x → x < n) → AreNamed n (clocks_in_step m) → StepsName n (fed_step o m)
  fed_names None m runs own = (own, tt)
  fed_names (Some x) m runs own =
      let low : x < n = runs x refl in
      ((low, tt), ((low, tt), ((low, tt), (own, ((low, tt), ((low, tt), ((low, tt), tt)))))))

  unfed_names : (o : Option ℕ) → ((x : ℕ) → o ≡ Some x → x < n) → StepsName n (option_map_or unfeed o [])
  unfed_names None runs = tt
  unfed_names (Some x) runs = let low : x < n = runs x refl in ((low, tt), ((low, tt), ((low, tt), tt)))

  move_names : (prep : ℕ → Bool) (c p : ℕ) → c < n → p < n → StepsName n (move s.defs s.clocks prep c p)
  move_names prep c p low high = either_names n (prep c) _ _ held (either_names n (runs_parent s.defs c) _ _ fed ((low, (high, tt)), ((low, tt), tt))) where
    old : StepsName n (option_map_or unfeed (link_in s.clocks c) [])
    old = unfed_names (link_in s.clocks c) (tree.links c)

    held : StepsName n (micro.Raise (clock_id p) ∷ micro.HoldPrepare (clock_id p) ∷ micro.HoldEnable (clock_id p) ∷ micro.HoldEnable (clock_id c)
        ∷ micro.Relink (clock_id c) (clock_id p) ∷ micro.WriteMux (clock_id c) (place_of s.defs c p) ∷ micro.DropEnable (clock_id c)
        ∷ option_map_or unfeed (link_in s.clocks c) [])
    held = ((high, tt), ((high, tt), ((high, tt), ((low, tt), ((low, (high, tt)), ((low, tt), ((low, tt), old)))))))

    fed : StepsName n (micro.Raise (clock_id c) ∷ micro.Raise (clock_id p) ∷ micro.HoldPrepare (clock_id c) ∷ micro.HoldEnable (clock_id c)
        ∷ micro.HoldPrepare (clock_id p) ∷ micro.HoldEnable (clock_id p)
        ∷ micro.Relink (clock_id c) (clock_id p) ∷ micro.WriteMux (clock_id c) (place_of s.defs c p)
        ∷ option_map_or unfeed (link_in s.clocks c) [] ++ unfeed c)
    fed = (
      (low, tt),
      (
        (high, tt),
        (
          (low, tt),
          (
            (low, tt),
            (
              (high, tt),
              (
                (high, tt),
                (
                  (low, (high, tt)),
                  (
                    (low, tt),
                    both_name n (option_map_or unfeed (link_in s.clocks c) []) (unfeed c) old ((low, tt), ((low, tt), ((low, tt), tt))),
                  ),
                ),
              ),
            ),
          ),
        ),
      ),
    )

  visit_names : (ks : List ChainStep) (c : ℕ) → c < n → StepsName n (visit_of s.defs s.clocks ks c)
  visit_names ks c low =
      fed_names (runs_for s.defs s.clocks ks c) (micro.Visit (clock_id c)) (λ x at. runs (list_any (λ k. k.clock == c) ks && has_setting (kind_of s.defs c)) (runs_to_set s.defs c) (runs_parent s.defs c) x at) (low, tt) where
        runs : (t u v : Bool) (x : ℕ) → (if t then (if u then Some c else if v then link_in s.clocks c else None) else None) ≡ Some x → x < n
        runs true true v x at = let same : c ≡ x = cc in subst (λ (y : ℕ). y < n) same low
        runs true false true x at = tree.links c x at
        runs true false false x at = absurd cc
        runs false u v x at = absurd cc

  moves_name : (prep : ℕ → Bool) (ks : List ChainStep) (c : ℕ) → c < n → AllByRecursion (IsPlacedStep n) ks → StepsName n (move_of s.defs s.clocks prep ks c)
  moves_name prep [] c low all = tt
  moves_name prep (k ∷ ks) c low all = by ((k.clock == c) && moves s.clocks k) (moves_name prep ks c low all.1) where
    rest : List ChainStep
    rest = filter (λ l. (l.clock == c) && moves s.clocks l) ks

    own : (o : Option ℕ) → k.parent ≡ o → StepsName n (option_map_or (move s.defs s.clocks prep c) o [])
    own None at = tt
    own (Some p) at = move_names prep c p low (all.0.1 p at)

    by : (b : Bool) → StepsName n (move_of s.defs s.clocks prep ks c) → StepsName n (flat_map (λ l. option_map_or (move s.defs s.clocks prep c) l.parent []) (cond b (k ∷ rest) rest))
    by true others = both_name n (option_map_or (move s.defs s.clocks prep c) k.parent []) (move_of s.defs s.clocks prep ks c) (own k.parent refl) others
    by false others = others

  pub planned_names : (ks : List ChainStep) (settles : List Micro) → IsPlacedChain n ks → StepsName n settles → StepsName n (planned s ks settles).steps
  unfolding planned
  planned_names ks settles chain ending =
      let w : Wiring = wiring s in
      let rates : Rates = record { before = rates_in w; outcome = rates_in (outcome ks w) } in
      let clocks : List ℕ = changing s.order w ks in
      let pres : List Micro = pre_list rates s.notifiers clocks in
      let visited : ℕ → List Micro = (λ c. move_of s.defs s.clocks (prepared s) ks c ++ visit_of s.defs s.clocks ks c) in
      let going : List Micro = flat_map visited (walk s.order w ks) ++ settles in
      let middle : List Micro = cond (list_any is_veto pres) (abort_list rates s.notifiers clocks) going in
      both_name n (pres ++ middle) (micro.End ∷ [])
      (both_name n pres middle (pres_name n rates s.notifiers clocks (changing_placed ks chain))
      (either_names n (list_any is_veto pres) (abort_list rates s.notifiers clocks) going (aborts_name n rates s.notifiers clocks (changing_placed ks chain))
      (both_name n (flat_map visited (walk s.order w ks)) settles
      (flat_names n visited (walk s.order w ks) (λ c m.
      both_name n (move_of s.defs s.clocks (prepared s) ks c) (visit_of s.defs s.clocks ks c) (moves_name (prepared s) ks c (walk_placed ks chain c m) chain.steps)
      (visit_names ks c (walk_placed ks chain c m)))) ending)))
      (tt, tt)

  -- ---- registrations

  given_placed : (c p : ℕ) → link_given s.defs s.regs s.clocks c ≡ Some p → p < n
  given_placed c p at = tree.parents c p (link_given_possible s.defs s.regs s.clocks c p at)

  adoption_names : (a : ℕ) → a < n → StepsName n (adoption s a)
  adoption_names a low = by (link_given s.defs s.regs s.clocks a) (prepared s a) refl where
    by : (o : Option ℕ) (b : Bool) → link_given s.defs s.regs s.clocks a ≡ o → StepsName n (option_map_or (λ p.
        if b
        then micro.Raise (clock_id p) ∷ micro.HoldPrepare (clock_id p) ∷ micro.HoldEnable (clock_id p) ∷ micro.HoldEnable (clock_id a)
        ∷ micro.Relink (clock_id a) (clock_id p) ∷ micro.DropEnable (clock_id a) ∷ micro.Settle (clock_id a) ∷ []
        else micro.Relink (clock_id a) (clock_id p) ∷ micro.Settle (clock_id a) ∷ []) o [])
    by None b at = tt
    by (Some p) true at = let high : p < n = given_placed a p at in ((high, tt), ((high, tt), ((high, tt), ((low, tt), ((low, (high, tt)), ((low, tt), ((low, tt), tt)))))))
    by (Some p) false at = let high : p < n = given_placed a p at in ((low, (high, tt)), ((low, tt), tt))

  pub probe_names : (c : ℕ) → c < n → StepsName n (probe_script s c)
  unfolding probe_script
  probe_names c low =
      let first : List Micro = cond (is_critical s.defs c) (micro.Raise (clock_id c) ∷ []) [] in
      let ordered : List ℕ = adoption_order (length (adoptable s)) s (adoptable s) in
      both_name n ((first ++ micro.Register (clock_id c) ∷ []) ++ flat_map (adoption s) ordered) (micro.End ∷ [])
      (both_name n (first ++ micro.Register (clock_id c) ∷ []) (flat_map (adoption s) ordered)
      (both_name n first (micro.Register (clock_id c) ∷ []) (either_names n (is_critical s.defs c) (micro.Raise (clock_id c) ∷ []) [] ((low, tt), tt) tt) ((low, tt), tt))
      (flat_names n (adoption s) ordered (λ a m. adoption_names a (tree.order a (can_adopt s a (ordered_in (length (adoptable s)) s (adoptable s) a m)).listed))))
      (tt, tt)

  -- ---- the sweep

  trees_placed : (levels c : ℕ) → c < n → ArePlaced n (tree_within (children s.order s.clocks) levels c)
  trees_placed zero c low = none_placed n
  trees_placed (suc levels) c low =
      both_placed n (flat_map (tree_within (children s.order s.clocks) levels) (children s.order s.clocks c)) (c ∷ [])
      (each_placed n (tree_within (children s.order s.clocks) levels) (children s.order s.clocks c)
      (λ x m. trees_placed levels x (chosen_placed n (λ d. is_at c (link_in s.clocks d)) s.order tree.order x m)))
      (one_more n c [] low (none_placed n))

  swept_placed : ArePlaced n (sweep_order s)
  unfolding sweep_order
  swept_placed =
      each_placed n (tree_within (children s.order s.clocks) depth) (roots s.defs s.order ++ orphans s.defs s.order s.clocks)
      (λ x m. trees_placed depth x (both_placed n (roots s.defs s.order) (orphans s.defs s.order s.clocks)
      (chosen_placed n (λ c. is_fixed (kind_of s.defs c)) s.order tree.order) (chosen_placed n (is_orphan s.defs s.clocks) s.order tree.order) x m))

  close_names : (c : ℕ) → c < n → StepsName n (close_of s.defs s.clocks c)
  close_names c low = fed_names (if runs_parent s.defs c then link_in s.clocks c else None) (micro.Close (clock_id c)) (λ x at. runs (runs_parent s.defs c) x at) (low, tt) where
    runs : (t : Bool) (x : ℕ) → (if t then link_in s.clocks c else None) ≡ Some x → x < n
    runs true x at = tree.links c x at
    runs false x at = absurd cc

  pub sweep_names : StepsName n (sweep_script s)
  unfolding sweep_script
  sweep_names =
      let closed : List ℕ = filter (λ c. not (ignores_unused s.defs c) && lets_through s.defs s.regs c && not (active s c)) (sweep_order s) in
      let unpowered : List ℕ = filter (λ c. not (ignores_unused s.defs c) && runs s.defs s.regs c && not (prepared s c)) (sweep_order s) in
      both_name n (flat_map (close_of s.defs s.clocks) closed ++ map (λ c. micro.Unpower (clock_id c)) unpowered) (micro.End ∷ [])
      (both_name n (flat_map (close_of s.defs s.clocks) closed) (map (λ c. micro.Unpower (clock_id c)) unpowered)
      (flat_names n (close_of s.defs s.clocks) closed
      (λ c m. close_names c (chosen_placed n (λ d. not (ignores_unused s.defs d) && lets_through s.defs s.regs d && not (active s d)) (sweep_order s) swept_placed c m)))
      (map_in_names n (λ c. micro.Unpower (clock_id c)) unpowered
      (λ c m. (chosen_placed n (λ d. not (ignores_unused s.defs d) && runs s.defs s.regs d && not (prepared s d)) (sweep_order s) swept_placed c m, tt))))
      (tt, tt)

  -- ---- paths

  path_placed : (levels c : ℕ) → c < n → ArePlaced n (path_within (link_in s.clocks) levels c)
  path_placed levels c low a m = path_all (λ x. x < n) (link_in s.clocks) levels c a (λ b p here up. tree.links b p up) low m

  pub up_placed : (c : ℕ) → c < n → ArePlaced n (path s.clocks c)
  up_placed c low = path_placed depth c low

  pub to_be_placed : (c : ℕ) → c < n → ArePlaced n (path_to_be s.defs s.regs s.clocks c)
  to_be_placed c low = by (registered s.clocks c) where
    above : (o : Option ℕ) → link_given s.defs s.regs s.clocks c ≡ o → ArePlaced n (option_map_or (path s.clocks) o [])
    above None at = none_placed n
    above (Some p) at = up_placed p (given_placed c p at)

    by : (b : Bool) → ArePlaced n (cond b (path s.clocks c) (c ∷ option_map_or (path s.clocks) (link_given s.defs s.regs s.clocks c) []))
    by true = up_placed c low
    by false = one_more n c (option_map_or (path s.clocks) (link_given s.defs s.regs s.clocks c) []) low (above (link_given s.defs s.regs s.clocks c) refl)
