-- A step that was read has the words that it was read from.
use Rattle.std.proofs.Common.{◌≡◌, ℕ, ◌-◌, ◌<◌, ◌^◌, Bool, List, [], ◌∷◌, Option, Some, None, refl, sym, ◌∙◌, length, codes, arith}
use Rattle.std.specs.Fmt.{decimal}
use Rattle.std.specs.Option.{option_map, option_and_then}
use Rattle.clk_base.specs.declared.call.Micro.{Micro}
use Rattle.clk_base.specs.declared.call.Micro.TheVariants as micro
use Rattle.clk_base.specs.declared.call.Notice.{Notice}
use Rattle.clk_base.specs.declared.clock.ClockId.{ClockId}
use Rattle.clk_base.specs.declared.event.Event.{Event}
use Rattle.clk_base.specs.declared.event.Event.TheVariants as event
use Rattle.clk_base.specs.Description.{Description, name_of, clock_named}
use Rattle.clk_base.proofs.Names.{clock_named-Some}
use Rattle.clk_model.specs.Text.{Word, step_words}
use Rattle.clk_journal.specs.Told.{told_answer, IsStep, IsPolled}
use Rattle.clk_journal.specs.ReadNumbers.{small, large}
use Rattle.clk_journal.specs.ReadSteps.{clock_step, poll_answer, middle_step, pre_answer, late_kind, notice_kind, notice_step, short_step, longer_step, told_step, read_step}
use Rattle.clk_journal.proofs.Gives.{Gives, gives_none, at_word, at_word_some, behind, mapped, two, onto}
use Rattle.clk_journal.proofs.Numerals.{number_forth}

-- the event is a step that has these words, can be told, and is as it is told
pub record IsStepOf (defs : Description) (ws : List Word) (e : Event) : Type 0 where
  pub step : Micro
  pub answer : Option Bool
  pub is : e ≡ event.Step step answer
  pub words : step_words defs step answer ≡ ws
  pub can : IsStep defs step
  pub polled : IsPolled step answer
  pub told : told_answer step answer ≡ answer

-- the name of a clock
record IsNameOf (defs : Description) (w : Word) (c : ClockId) : Type 0 where
  there : c.0 < length defs
  name : name_of defs c.0 ≡ w

-- a kind of notice by its first word and those after its numbers
record IsKindOf (verb : Word) (rest : List Word) (kind : Notice) : Type 0 where
  words : (defs : Description) (c : ClockId) (id old new : ℕ) → step_words defs (micro.Notify kind c id old new) None ≡ verb ∷ name_of defs c.0 ∷ decimal id ∷ decimal old ∷ decimal new ∷ rest

named : (defs : Description) (w : Word) (c : ClockId) → clock_named defs w ≡ Some c → IsNameOf defs w c
named defs w c e = let there = clock_named-Some defs w c e in record { there = there.0; name = there.1 }

late : (verb : Word) → Gives (IsKindOf verb []) (late_kind verb)
unfolding late_kind
late verb =
    let P = IsKindOf verb [] in
    at_word_some P verb (codes "abort") _ _ (λ e. record { words = λ defs c id old new. onto (sym e) refl })
    (at_word_some P verb (codes "post") _ _ (λ e. record { words = λ defs c id old new. onto (sym e) refl })
    (gives_none P))

pre : (verb w : Word) → verb ≡ codes "pre" → Gives (IsKindOf verb (w ∷ [])) (pre_answer w)
unfolding pre_answer
pre verb w first =
    let P = IsKindOf verb (w ∷ []) in
    at_word_some P w (codes "accept") _ _ (λ e. record { words = λ defs c id old new. onto (sym first) (onto refl (onto refl (onto refl (two refl (sym e))))) })
    (at_word_some P w (codes "veto") _ _ (λ e. record { words = λ defs c id old new. onto (sym first) (onto refl (onto refl (onto refl (two refl (sym e))))) })
    (gives_none P))

kinds : (verb : Word) (rest : List Word) → Gives (IsKindOf verb rest) (notice_kind verb rest)
unfolding notice_kind
kinds verb [] = late verb
kinds verb (w ∷ []) = at_word (IsKindOf verb (w ∷ [])) verb (codes "pre") _ _ (λ e. pre verb w e) (gives_none (IsKindOf verb (w ∷ [])))
kinds verb (w ∷ v ∷ rest) = gives_none (IsKindOf verb (w ∷ v ∷ rest))

-- a step of one clock
record IsOneOf (defs : Description) (verb w : Word) (m : Micro) : Type 0 where
  words : step_words defs m None ≡ verb ∷ w ∷ []
  can : IsStep defs m
  polled : IsPolled m None
  told : told_answer m None ≡ None

-- the answer of a poll
record IsAnswerOf (x : Word) (yes : Bool) : Type 0 where
  words : (defs : Description) (c : ClockId) → step_words defs (micro.Poll c) (Some yes) ≡ codes "poll" ∷ name_of defs c.0 ∷ x ∷ []

module _ (defs : Description) where
  one : (verb w : Word) (c : ClockId) → IsNameOf defs w c → Gives (IsStepOf defs (verb ∷ w ∷ [])) (short_step verb (Some c))
  unfolding short_step clock_step
  one verb w c is = mapped (IsStepOf defs (verb ∷ w ∷ [])) (λ m. event.Step m None) (clock_step verb c) (λ m e.
      let h = steps.holds m e in record { step = m; answer = None; is = refl; words = h.words; can = h.can; polled = h.polled; told = h.told }) where
        P : Micro → Type 0
        P = IsOneOf defs verb w

        steps : Gives P (clock_step verb c)
        steps =
            at_word_some P verb (codes "raise") _ _ (λ e. record { words = two (sym e) is.name; can = is.there; polled = tt; told = refl })
            (at_word_some P verb (codes "fall") _ _ (λ e. record { words = two (sym e) is.name; can = is.there; polled = tt; told = refl })
            (at_word_some P verb (codes "hold-prepare") _ _ (λ e. record { words = two (sym e) is.name; can = is.there; polled = tt; told = refl })
            (at_word_some P verb (codes "hold-enable") _ _ (λ e. record { words = two (sym e) is.name; can = is.there; polled = tt; told = refl })
            (at_word_some P verb (codes "drop-enable") _ _ (λ e. record { words = two (sym e) is.name; can = is.there; polled = tt; told = refl })
            (at_word_some P verb (codes "drop-prepare") _ _ (λ e. record { words = two (sym e) is.name; can = is.there; polled = tt; told = refl })
            (at_word_some P verb (codes "lower") _ _ (λ e. record { words = two (sym e) is.name; can = is.there; polled = tt; told = refl })
            (at_word_some P verb (codes "visit") _ _ (λ e. record { words = two (sym e) is.name; can = is.there; polled = tt; told = refl })
            (at_word_some P verb (codes "register") _ _ (λ e. record { words = two (sym e) is.name; can = is.there; polled = tt; told = refl })
            (at_word_some P verb (codes "settle") _ _ (λ e. record { words = two (sym e) is.name; can = is.there; polled = tt; told = refl })
            (at_word_some P verb (codes "close") _ _ (λ e. record { words = two (sym e) is.name; can = is.there; polled = tt; told = refl })
            (at_word_some P verb (codes "unpower") _ _ (λ e. record { words = two (sym e) is.name; can = is.there; polled = tt; told = refl })
            (gives_none P))))))))))))

  more : (verb w x : Word) (c : ClockId) → IsNameOf defs w c → Gives (IsStepOf defs (verb ∷ w ∷ x ∷ [])) (middle_step defs verb c x)
  unfolding middle_step poll_answer
  more verb w x c is =
      let P = IsStepOf defs (verb ∷ w ∷ x ∷ []) in
      at_word P verb (codes "poll") _ _ (λ e. polls e)
      (at_word P verb (codes "relink") _ _ (λ e. mapped P (λ p. event.Step (micro.Relink c p) None) (clock_named defs x) (λ p f.
      let there = named defs x p f in
      record { step = micro.Relink c p; answer = None; is = refl; words = onto (sym e) (two is.name there.name); can = (is.there, there.there); polled = tt; told = refl }))
      (at_word P verb (codes "write-mux") _ _ (λ e. mapped P (λ n. event.Step (micro.WriteMux c n) None) (small x) (λ n f.
      let low = number_forth (2 ^ 32 - 1) x n f in
      record { step = micro.WriteMux c n; answer = None; is = refl; words = onto (sym e) (two is.name low.word); can = (is.there, omega (arith, low.low)); polled = tt; told = refl }))
      (gives_none P))) where
        answers : Gives (IsAnswerOf x) (poll_answer x)
        answers =
            at_word_some (IsAnswerOf x) x (codes "yes") _ _ (λ e. record { words = λ ds k. onto refl (two refl (sym e)) })
            (at_word_some (IsAnswerOf x) x (codes "no") _ _ (λ e. record { words = λ ds k. onto refl (two refl (sym e)) })
            (gives_none (IsAnswerOf x)))

        polls : verb ≡ codes "poll" → Gives (IsStepOf defs (verb ∷ w ∷ x ∷ [])) (option_map (λ yes. event.Step (micro.Poll c) (Some yes)) (poll_answer x))
        polls e = mapped (IsStepOf defs (verb ∷ w ∷ x ∷ [])) (λ yes. event.Step (micro.Poll c) (Some yes)) (poll_answer x) (λ yes f.
            let h = answers.holds yes f in
            record { step = micro.Poll c; answer = Some yes; is = refl; words = h.words defs c ∙ onto (sym e) (two is.name refl); can = is.there; polled = tt; told = refl })

  notices : (verb w id old new : Word) (rest : List Word) (kind : Notice) (c : ClockId) → IsKindOf verb rest kind → IsNameOf defs w c
      → Gives (IsStepOf defs (verb ∷ w ∷ id ∷ old ∷ new ∷ rest)) (notice_step kind c id old new)
  unfolding notice_step
  notices verb w id old new rest kind c has is =
      let P = IsStepOf defs (verb ∷ w ∷ id ∷ old ∷ new ∷ rest) in
      behind P (λ i. option_and_then (λ x. option_map (λ y. event.Step (micro.Notify kind c i x y) None) (large new)) (large old)) (small id) (λ i f.
      behind P (λ x. option_map (λ y. event.Step (micro.Notify kind c i x y) None) (large new)) (large old) (λ x g.
      mapped P (λ y. event.Step (micro.Notify kind c i x y) None) (large new) (λ y h.
      let one = number_forth (2 ^ 32 - 1) id i f in
      let two_ = number_forth (2 ^ 64 - 1) old x g in
      let three = number_forth (2 ^ 64 - 1) new y h in
      record {
        step = micro.Notify kind c i x y;
        answer = None;
        is = refl;
        words = has.words defs c i x y ∙ onto refl (onto is.name (onto one.word (onto two_.word (onto three.word refl))));
        can = (is.there, omega (arith, one.low), omega (arith, two_.low), omega (arith, three.low));
        polled = tt;
        told = refl;
      })))

  told : (verb w id old new : Word) (rest : List Word) → Gives (IsStepOf defs (verb ∷ w ∷ id ∷ old ∷ new ∷ rest)) (told_step (notice_kind verb rest) (clock_named defs w) id old new)
  unfolding told_step
  told verb w id old new rest = by (notice_kind verb rest) (clock_named defs w) refl refl where
    by : (k : Option Notice) (o : Option ClockId) → notice_kind verb rest ≡ k → clock_named defs w ≡ o → Gives (IsStepOf defs (verb ∷ w ∷ id ∷ old ∷ new ∷ rest)) (told_step k o id old new)
    by None o e f = gives_none (IsStepOf defs (verb ∷ w ∷ id ∷ old ∷ new ∷ rest))
    by (Some kind) None e f = gives_none (IsStepOf defs (verb ∷ w ∷ id ∷ old ∷ new ∷ rest))
    by (Some kind) (Some c) e f = notices verb w id old new rest kind c ((kinds verb rest).holds kind e) (named defs w c f)

  shorter : (verb w : Word) → Gives (IsStepOf defs (verb ∷ w ∷ [])) (short_step verb (clock_named defs w))
  unfolding short_step
  shorter verb w = by (clock_named defs w) refl where
    by : (o : Option ClockId) → clock_named defs w ≡ o → Gives (IsStepOf defs (verb ∷ w ∷ [])) (short_step verb o)
    by None e = gives_none (IsStepOf defs (verb ∷ w ∷ []))
    by (Some c) e = one verb w c (named defs w c e)

  longer : (verb w x : Word) → Gives (IsStepOf defs (verb ∷ w ∷ x ∷ [])) (longer_step defs verb x (clock_named defs w))
  unfolding longer_step
  longer verb w x = by (clock_named defs w) refl where
    by : (o : Option ClockId) → clock_named defs w ≡ o → Gives (IsStepOf defs (verb ∷ w ∷ x ∷ [])) (longer_step defs verb x o)
    by None e = gives_none (IsStepOf defs (verb ∷ w ∷ x ∷ []))
    by (Some c) e = more verb w x c (named defs w c e)

  pub step_forth : (ws : List Word) → Gives (IsStepOf defs ws) (read_step defs ws)
  unfolding read_step
  step_forth [] = gives_none (IsStepOf defs [])
  step_forth (verb ∷ []) =
      let P = IsStepOf defs (verb ∷ []) in
      at_word_some P verb (codes "end") _ _ (λ e. record { step = micro.End; answer = None; is = refl; words = onto (sym e) refl; can = tt; polled = tt; told = refl }) (gives_none P)
  step_forth (verb ∷ w ∷ []) = shorter verb w
  step_forth (verb ∷ w ∷ x ∷ []) = longer verb w x
  step_forth (verb ∷ w ∷ x ∷ y ∷ []) = gives_none (IsStepOf defs (verb ∷ w ∷ x ∷ y ∷ []))
  step_forth (verb ∷ w ∷ x ∷ y ∷ z ∷ rest) = told verb w x y z rest
