-- The calls that placed commands make name clocks of the description.
use Rattle.std.proofs.Common.{◌≡◌, ℕ, ◌+◌, ◌<◌, ◌≤◌, List, [], ◌∷◌, map, Option, Some, None, sym, subst, length, arith, inl, inr}
use Rattle.std.specs.Prelude.{IfSome}
use Rattle.std.specs.List.{AllByRecursion}
use Rattle.std.proofs.lemmas.Bool.{cases_lt}
use Rattle.clk_base.specs.declared.command.Act.{Act}
use Rattle.clk_base.specs.declared.command.Act.TheVariants as act
use Rattle.clk_base.specs.declared.command.Answer.{Answer}
use Rattle.clk_base.specs.declared.command.Command.{Command}
use Rattle.clk_base.specs.declared.event.Entry.{Entry}
use Rattle.clk_base.specs.declared.event.Event.{Event}
use Rattle.clk_base.specs.declared.handle.Handle.{Handle}
use Rattle.clk_base.specs.Description.{Description}
use Rattle.clk_model.specs.Follows.{Variables, call_of, handle_of, NextFollows, FollowsFrom, no_handles}
use Rattle.clk_model.specs.Journal.{Answered, calls}
use Rattle.clk_journal.specs.Sized.{clocks_begun, AreThere}
use Rattle.driver_runs.specs.Drivers.{FollowAll}
use Rattle.drv_scripts.specs.declared.bundle.Script.{Script}
use Rattle.drv_scripts.specs.Placed.{NamesPlace, NamePlaces, IsScript}
use Rattle.clk_run.proofs.EndedCalls.{ArePlacedCalls}

module _ (defs : Description) where
  -- the call of an act, if it makes one
  act_placed : (held : Option Handle) (a : Act) → NamesPlace (length defs) a → IfSome (call_of held a) (λ e. AreThere defs (clocks_begun e))
  act_placed None (act.Get None) placed = tt
  act_placed None (act.Get (Some c)) placed = (placed, tt)
  act_placed (Some h) (act.Get found) placed = tt
  act_placed None (act.SetParent p) placed = tt
  act_placed (Some h) (act.SetParent p) placed = (placed, tt)
  act_placed None (act.Probe c) placed = (placed, tt)
  act_placed (Some h) (act.Probe c) placed = (placed, tt)
  act_placed None act.Sweep placed = tt
  act_placed (Some h) act.Sweep placed = tt
  act_placed None a placed = tt
  act_placed (Some h) a placed = tt

  -- the calls of commands
  follows_placed : (held : Variables) (commands : List Command) (ls : List Answered) (answers : List Answer) → NamePlaces (length defs) commands → FollowsFrom held commands ls answers → ArePlacedCalls defs ls
  follows_placed held [] [] [] placed follows = tt
  follows_placed held [] [] (a ∷ answers) placed follows = tt
  follows_placed held [] (l ∷ ls) answers placed follows = absurd follows
  follows_placed held (c ∷ cs) ls [] placed follows = absurd follows
  follows_placed held (c ∷ cs) ls (a ∷ answers) placed follows =
      by (call_of (handle_of held c) c.act) (act_placed (handle_of held c) c.act placed.0) ls (λ after more rest. follows_placed after cs more answers placed.1 rest) follows where
        by : (o : Option Event) → IfSome o (λ e. AreThere defs (clocks_begun e)) → (ls : List Answered) → ((after : Variables) (more : List Answered) → FollowsFrom after cs more answers → ArePlacedCalls defs more)
            → NextFollows (λ after more. FollowsFrom after cs more answers) held c o ls a → ArePlacedCalls defs ls
        by None named ls later next = later held ls next.1
        by (Some e) named [] later next = absurd next
        by (Some e) named (l ∷ ls) later next = (subst (λ (v : Event). AreThere defs (clocks_begun v)) (sym next.0) named, later _ ls next.2)

  -- the calls of each driver
  pub all_placed : (n : ℕ) (scripts : List (List Command)) (answers : List (List Answer)) (journal : List Entry) → AllByRecursion (λ commands. NamePlaces (length defs) commands) scripts
      → FollowAll n scripts answers journal → (d : ℕ) → n ≤ d → d < n + length scripts → ArePlacedCalls defs (calls journal d)
  all_placed n [] answers journal placed follow d least most = absurd (omega (arith, least, most))
  all_placed n (commands ∷ scripts) [] journal placed follow d least most = absurd follow
  all_placed n (commands ∷ scripts) (own ∷ answers) journal placed follow d least most =
      elim (cases_lt n d) [
        | inl above ↦ all_placed (n + 1) scripts answers journal placed.1 follow.2 d (omega (arith, above)) (omega (arith, most))
        | inr below ↦
            let same : n ≡ d = omega (arith, below, least) in
            subst (λ (k : ℕ). ArePlacedCalls defs (calls journal k)) same (follows_placed (no_handles commands) commands (calls journal n) own placed.0 follow.0)
      ]

-- the commands of the drivers of a bundle
pub scripts_placed : (clocks : ℕ) (drivers : List Script) → AllByRecursion (IsScript clocks) drivers → AllByRecursion (λ commands. NamePlaces clocks commands) (map (λ (s : Script). s.commands) drivers)
scripts_placed clocks [] all = tt
scripts_placed clocks (s ∷ drivers) all = (all.0.placed, scripts_placed clocks drivers all.1)
