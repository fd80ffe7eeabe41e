-- The notices to the notifiers of a changed clock.
use Rattle.std.specs.Prelude.{ℕ, ◌==◌, List, [], ◌∷◌, Bool, not, if◌then◌else◌, map, length, slice_index_or}
use Rattle.clk_base.specs.declared.call.Micro.{Micro}
use Rattle.clk_base.specs.declared.call.Micro.TheVariants as micro
use Rattle.clk_base.specs.declared.call.Notice.{Notice}
use Rattle.clk_base.specs.declared.call.Notice.TheVariants as notice
use Rattle.clk_model.specs.Notices.{vetoes}
use Rattle.notifiers.specs.declared.notifier.Notifier.{Notifier}
use Rattle.change_walk.specs.declared.changes.Changed.{Changed}

-- the notice of this kind to a notifier of a clock
abbrev pub notify : Notice → Changed → ℕ → Micro
notify kind x id = micro.Notify kind x.clock id x.before x.after

-- the notifiers of a changed clock
abbrev pub notifiers_at : List (List Notifier) → Changed → List Notifier
notifiers_at chains x = slice_index_or chains x.clock.0 []

-- whether a clock has a notifier
abbrev pub has_notifiers : List (List Notifier) → ℕ → Bool
has_notifiers chains c = not (length (slice_index_or chains c []) == 0)

-- the notices to the notifiers of one clock before a change, up to and with the first veto
abbrev pub tell_before : Changed → List Notifier → List Micro
tell_before x [] = []
tell_before x (n ∷ ns) =
    notify (notice.Pre (vetoes n.policy x.after)) x n.id ∷ (if vetoes n.policy x.after then [] else tell_before x ns)

-- the notices to the notifiers of one clock that a change is called off
abbrev pub tell_off : Changed → List Notifier → List Micro
tell_off x ns = map (λ n. notify notice.Abort x n.id) ns
