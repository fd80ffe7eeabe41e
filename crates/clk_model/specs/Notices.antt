-- The notices of a change.
use Rattle.std.specs.Prelude.{ℕ, ◌==◌, List, [], ◌∷◌, Bool, true, false, filter, map, if◌then◌else◌, flat_map, nat_lt, slice_index}
use Rattle.std.specs.Int.RustNames.{int_lt}
use Rattle.clk_base.specs.declared.call.Micro.{Micro}
use Rattle.clk_base.specs.declared.call.Micro.TheVariants as micro
use Rattle.clk_base.specs.declared.call.Notice.TheVariants as notice
use Rattle.clk_base.specs.declared.handle.Policy.{Policy}
use Rattle.clk_base.specs.declared.handle.Policy.TheVariants as policy
use Rattle.clk_model.specs.State.{NotifierRow}
use Rattle.clk_model.specs.Chain.{clock_id}

-- a notifier among others by falling priority, behind those of its own priority
abbrev pub by_priority : NotifierRow → List NotifierRow → List NotifierRow
by_priority n [] = n ∷ []
by_priority n (m ∷ ms) = if int_lt m.priority n.priority then n ∷ m ∷ ms else m ∷ by_priority n ms

-- notifiers in the order of adding, sorted by falling priority
abbrev pub sorted : List NotifierRow → List NotifierRow → List NotifierRow
sorted done [] = done
sorted done (n ∷ ns) = sorted (by_priority n done) ns

-- the notifiers of a clock by falling priority, equals in the order of adding
abbrev pub notifiers_of : List NotifierRow → ℕ → List NotifierRow
notifiers_of notifiers c = sorted [] (filter (λ n. n.clock == c) notifiers)

-- whether a notifier vetoes this new rate
abbrev pub vetoes : Policy → ℕ → Bool
vetoes policy.Accept new = false
vetoes (policy.VetoAbove r) new = nat_lt r new
vetoes (policy.VetoBelow r) new = nat_lt new r
vetoes policy.VetoAll new = true

-- the rates that notices of a clock carry: at the beginning, and in the outcome
pub record Rates : Type 0 where
  pub before : List ℕ
  pub outcome : List ℕ

-- the notices before a change to the notifiers of one clock, up to and with the first veto
abbrev pub until_veto : Rates → ℕ → List NotifierRow → List Micro
until_veto rates c [] = []
until_veto rates c (n ∷ ns) =
    let new = slice_index rates.outcome c in
    micro.Notify (notice.Pre (vetoes n.policy new)) (clock_id c) n.id (slice_index rates.before c) new
    ∷ (if vetoes n.policy new then [] else until_veto rates c ns)

-- the notices before a change, over these clocks
abbrev pub pre_list : Rates → List NotifierRow → List ℕ → List Micro
pre_list rates notifiers changing = flat_map (λ c. until_veto rates c (notifiers_of notifiers c)) changing

-- whether a step is a notice that is answered by a veto
abbrev pub is_veto : Micro → Bool
is_veto (micro.Notify (notice.Pre veto) c id old new) = veto
is_veto _ = false

-- the notices that a change is called off, over these clocks
abbrev pub abort_list : Rates → List NotifierRow → List ℕ → List Micro
abort_list rates notifiers changing =
    flat_map (λ c. map (λ n. micro.Notify notice.Abort (clock_id c) n.id (slice_index rates.before c) (slice_index rates.outcome c)) (notifiers_of notifiers c)) changing

-- the notices that a clock's rate has changed
abbrev pub post_list : Rates → List NotifierRow → ℕ → List Micro
post_list rates notifiers c =
    map (λ n. micro.Notify notice.Post (clock_id c) n.id (slice_index rates.before c) (slice_index rates.outcome c)) (notifiers_of notifiers c)
