-- The laws of feeding over runs.
use Rattle.std.proofs.Common.{◌≡◌, ℕ, Bool, true, List, [], ◌∷◌, Option, Some, None, refl, sym, ap, ◌∙◌, ◌⊎◌, inl, inr, length}
use Rattle.std.proofs.lemmas.Bool.{and_from}
use Rattle.std.specs.Prelude.{option_and_then, option_map}
use Rattle.std.specs.List.{list_any}
use Rattle.std.specs.Option.{option_map_or}
use Rattle.clk_base.specs.declared.event.Entry.{Entry}
use Rattle.clk_base.specs.declared.event.Turn.{Turn}
use Rattle.clk_base.specs.Description.{Description, kind_of}
use Rattle.clk_base.specs.Valid.{IsValid}
use Rattle.clk_base.proofs.Valid.{lines_end}
use Rattle.reg_bank.specs.Registers.{Registers}
use Rattle.clk_model.specs.Kinds.{is_fixed, mux_field}
use Rattle.clk_model.specs.State.{State, registered, link_in}
use Rattle.clk_model.specs.Tree.{path, rooted, selected}
use Rattle.clk_model.specs.Fed.{Fed}
use Rattle.clk_model.specs.Machine.{next}
use Rattle.clk_model.specs.Journal.{replay, opening}
use Rattle.clk_model.specs.Round.{wiring}
use Rattle.clk_model.specs.Wired.{IsWired}
use Rattle.clk_model.specs.Laws.Supplied.{IsSupplied}
use Rattle.clk_model.specs.Laws.HoldsLeft.{RunsLeaveNoHold}
use Rattle.clk_model.specs.Laws.RunsFed.{RunsAreFed, IsSettled, QuietRunsAreSettled}
use Rattle.clk_model.proofs.Members.{any_from_in}
use Rattle.clk_model.proofs.LinkLaws.{runs_keep_links, runs_are_wired}
use Rattle.clk_model.proofs.SupplyLaws.{supplied_is_fed}
use Rattle.clk_model.proofs.GatesFollowLaws.{blank_link, opening_is_supplied}
use Rattle.clk_model.proofs.AboveLaws.{HasRoot, above_path}
use Rattle.clk_model.proofs.Scenes.{scene, fed_by, IsSound, IsSafe, IsAtRest}
use Rattle.clk_model.proofs.ArriveLaws.{safe_supplied}
use Rattle.clk_model.proofs.SafeRunLaws.{IsRunning, quietly, in_flight, IsRun, run_goes_on}

-- ---- runs

-- each run begins at rest
opening_runs : (defs : Description) (regs : Registers) (ignore_unused : Bool) (credits : ℕ) → IsValid (length regs) defs → IsRun (opening defs regs ignore_unused credits)
opening_runs defs regs ignore_unused credits valid = record {
  keeps = runs_keep_links (length regs) defs regs ignore_unused credits [] valid;
  wired = wired;
  running_ = quietly refl (record { safe = safe; prepares = refl; enables = refl });
} where
  s : State
  s = opening defs regs ignore_unused credits

  wired : IsWired (length regs) (wiring s)
  wired = (runs_are_wired defs regs ignore_unused credits [] valid).wired

  supplied : IsSupplied s
  supplied = opening_is_supplied defs regs ignore_unused credits valid

  unlinked : {A : Type 0} (c p : ℕ) → link_in s.clocks c ≡ Some p → A
  unlinked c p at = absurd (let no : None ≡ Some p = sym (blank_link (length defs) c) ∙ at in cc)

  sound : IsSound defs (scene None s)
  sound = record {
    tree = record { possible = λ c p at. unlinked c p at; linked = λ c p at. unlinked c p at; rooted = λ n c at. absurd cc; listed = λ c m. absurd cc };
    fed = λ c p at. unlinked c p at;
    late_held = λ c p e. absurd cc;
    holds = λ h m. absurd cc;
  }

  safe : IsSafe None s
  safe = record { wired = wired; sound = sound; enables = λ n h at. absurd cc; powers = λ c prep. (supplied.supplies.ready c prep).powered; gates = supplied.gates }

-- and goes on so, whatever events are defined
replay_runs : (es : List Entry) (s : State) → IsRun s → IsRun (replay s es)
replay_runs [] s run = run
replay_runs (e ∷ es) s run = by_next (next s e.driver e.event) refl (λ u r. replay_runs es u r) where
  by_next : (o : Option (State × Turn)) → next s e.driver e.event ≡ o → ((u : State) → IsRun u → IsRun (replay u es)) → IsRun (replay (option_map_or (λ x. x.0) o s) es)
  by_next None at rest = rest s run
  by_next (Some x) at rest = rest x.0 (run_goes_on s x.0 e.driver e.event x.1 run at)

pub run_of : (defs : Description) (regs : Registers) (ignore_unused : Bool) (credits : ℕ) (journal : List Entry) → IsValid (length regs) defs → IsRun (replay (opening defs regs ignore_unused credits) journal)
run_of defs regs ignore_unused credits journal valid = replay_runs journal (opening defs regs ignore_unused credits) (opening_runs defs regs ignore_unused credits valid)

-- ---- each active clock is fed

pub runs_are_fed : RunsAreFed
runs_are_fed defs regs ignore_unused credits journal valid = by_running (run_of defs regs ignore_unused credits journal valid).running_ where
  s : State
  s = replay (opening defs regs ignore_unused credits) journal

  by_running : IsRunning s → Fed s
  by_running (quietly quiet rest) = supplied_is_fed s (safe_supplied None s rest.safe)
  by_running (in_flight goes) = supplied_is_fed s (safe_supplied goes.in_call.late s goes.in_call.safe)

-- ---- at rest

-- a clock with a root is rooted
is_rooted : (s : State) (c : ℕ) → IsSafe None s → registered s.clocks c ≡ true → HasRoot s.defs (link_in s.clocks) c → rooted s.defs s.clocks c ≡ true
is_rooted s c safe there root =
    and_from (registered s.clocks c) (list_any (λ a. is_fixed (kind_of s.defs a)) (path s.clocks c)) there
    (any_from_in (λ a. is_fixed (kind_of s.defs a)) (path s.clocks c) root.0 (above_path s.defs (link_in s.clocks) c root.0 (lines_end (length s.regs) s.defs safe.wired.valid) safe.wired.links root.1) root.2)

settled_at_rest : (s : State) → IsAtRest s → IsSettled s
settled_at_rest s rest = record {
  holds = record { prepares = rest.prepares; enables = rest.enables };
  powered = rest.safe.powers;
  prepared_ = rest.safe.enables;
  fed = λ c p at.
      ap (λ (o : Option ℕ). option_and_then (λ q. option_map_or (λ f. selected s.defs s.regs c) (mux_field (kind_of s.defs c)) (Some q)) o) at
      ∙ by_feed c p (rest.safe.sound.fed c p at);
  rooted_ = λ n h at. let is = rest.safe.sound.tree.rooted n h.clock.0 (ap (option_map (λ r. r.clock.0)) at) in is_rooted s h.clock.0 rest.safe is.0 is.1;
} where
  by_feed : (c p : ℕ) → (fed_by s.defs (scene None s) c p ≡ Some p) ⊎ (None ≡ Some c) → fed_by s.defs (scene None s) c p ≡ Some p
  by_feed c p (inl fed) = fed
  by_feed c p (inr late) = absurd cc

pub quiet_runs_are_settled : QuietRunsAreSettled
quiet_runs_are_settled defs regs ignore_unused credits journal valid quiet = by_running (run_of defs regs ignore_unused credits journal valid).running_ where
  s : State
  s = replay (opening defs regs ignore_unused credits) journal

  by_running : IsRunning s → IsSettled s
  by_running (quietly quiet_ rest) = settled_at_rest s rest
  by_running (in_flight goes) = let no : Some goes.change ≡ None = sym goes.at ∙ quiet in absurd cc

-- so no hold is left between calls
pub runs_leave_no_hold : RunsLeaveNoHold
runs_leave_no_hold defs regs ignore_unused credits journal valid quiet = (quiet_runs_are_settled defs regs ignore_unused credits journal valid quiet).holds
