-- The answers of drivers are no more than their commands.
use Rattle.std.proofs.Common.{◌≡◌, ℕ, suc, ◌+◌, ◌≤◌, List, [], ◌∷◌, Option, Some, None, refl, ap, arith, length, map, drop, count_by}
use Rattle.std.proofs.lemmas.List.Sums.{count_by-le-length, sum_by-cons}
use Rattle.clk_base.specs.declared.command.Answer.{Answer}
use Rattle.clk_base.specs.declared.command.Command.{Command}
use Rattle.clk_base.specs.declared.event.Entry.{Entry}
use Rattle.clk_base.specs.declared.event.Event.{Event}
use Rattle.clk_model.specs.Follows.{Variables, handle_of, call_of, held_after, NextFollows, FollowsFrom}
use Rattle.clk_model.specs.Journal.{Answered}
use Rattle.drv_scripts.specs.declared.bundle.Script.{Script}
use Rattle.driver_runs.specs.Drivers.{FollowAll}
use Rattle.driver_runs.specs.Turns.{scripts_with}
use Rattle.clk_run.specs.Texts.{command_count, is_ok_answer, ok_count}

-- what is said of the commands behind the next one holds where they follow
behind_next : (rest : Variables → List Answered → Type 0) (P : Type 0) → ((after : Variables) (ls : List Answered) → rest after ls → P)
    → (held : Variables) (c : Command) (call : Option Event) (calls : List Answered) (a : Answer) → NextFollows rest held c call calls a → P
behind_next rest P then held c None calls a next = then held calls next.1
behind_next rest P then held c (Some e) [] a next = absurd next
behind_next rest P then held c (Some e) (l ∷ ls) a next = then (held_after held c c.act l.reply) ls next.2

-- each command has one answer
one_each : (held : Variables) (commands : List Command) (calls : List Answered) (answers : List Answer) → FollowsFrom held commands calls answers → length answers ≡ length commands
one_each held [] [] [] follow = refl
one_each held [] [] (a ∷ answers) follow = absurd follow
one_each held [] (l ∷ ls) answers follow = absurd follow
one_each held (c ∷ commands) calls [] follow = absurd follow
one_each held (c ∷ commands) calls (a ∷ answers) follow =
    ap suc (behind_next (λ after ls. FollowsFrom after commands ls answers) (length answers ≡ length commands) (λ after ls more. one_each after commands ls answers more) held c
    (call_of (handle_of held c) c.act) calls a follow)

-- so no more of them are fine than there are commands
few_own : (d : ℕ) (drivers : List Script) (answers : List (List Answer)) (journal : List Entry) → FollowAll d (map (λ (s : Script). s.commands) drivers) answers journal
    → ok_count answers ≤ command_count drivers
few_own d [] [] journal follow = omega arith
few_own d [] (own ∷ answers) journal follow = absurd follow
few_own d (s ∷ drivers) [] journal follow = absurd follow
few_own d (s ∷ drivers) (own ∷ answers) journal follow =
    let one = one_each _ s.commands _ own follow.0 in
    let fine = count_by-le-length is_ok_answer own in
    let rest = few_own (d + 1) drivers answers journal follow.2 in
    let mine : ok_count (own ∷ answers) ≡ count_by is_ok_answer own + ok_count answers = sum_by-cons (λ (as_ : List Answer). count_by is_ok_answer as_) own answers in
    let theirs : command_count (s ∷ drivers) ≡ length s.commands + command_count drivers = sum_by-cons (λ (x : Script). length x.commands) s drivers in
    omega arith

-- also of those behind boot's
pub few_fine : (boot : List Command) (drivers : List Script) (answers : List (List Answer)) (journal : List Entry) → FollowAll 0 (scripts_with boot drivers) answers journal
    → ok_count (drop 1 answers) ≤ command_count drivers
few_fine boot drivers [] journal follow = absurd follow
few_fine boot drivers (own ∷ answers) journal follow = few_own 1 drivers answers journal follow.2
