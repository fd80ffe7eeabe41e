use Rattle.std.proofs.Common.{◌≡◌, ◌∙◌, ◌+◌, ◌-◌, ap, sym, take, drop, length, List, ℕ, arith}
use Rattle.std.specs.Option.{option_and_then}
use Rattle.std.specs.Borrow.{Bor}
use Rattle.std.proofs.lemmas.Grind.{common_steps}
use Rattle.std.proofs.lemmas.List.{take-map, drop-map}
use Rattle.clk_journal.specs.Words.{texts}
use Rattle.clk_journal.specs.ReadEntries.{of_parts, of_driver}
use Rattle.clk_journal.proofs.reading.entry.of_driver.Goals as goal

texts_take : (n : ℕ) (ws : List (Bor (List ℕ))) → texts (take n ws) ≡ take n (texts ws)
texts_take n ws = sym (take-map (λ (w : Bor (List ℕ)). w.now) n ws)

texts_drop : (n : ℕ) (ws : List (Bor (List ℕ))) → texts (take (length ws - n) (drop n ws)) ≡ drop n (texts ws)
texts_drop n ws =
    let all : take (length ws - n) (drop n ws) ≡ drop n ws = grind (arith, common_steps) in
    ap texts all ∙ sym (drop-map (λ (w : Bor (List ℕ)). w.now) n ws)

pub returns : goal.returns
unfolding of_driver
returns c =
    let ws = c.args.words.now in
    let defs = c.args.desc.now.defs in
    c.of_parts.ensures
    ∙ ap (λ us. of_parts defs c.args.driver us (texts (take (length ws - (c.in_ok-at.at + 1)) (drop (c.in_ok-at.at + 1) ws)))) (texts_take c.in_ok-at.at ws)
    ∙ ap (of_parts defs c.args.driver (take c.in_ok-at.at (texts ws))) (texts_drop (c.in_ok-at.at + 1) ws)
    ∙ ap (option_and_then (λ at. of_parts defs c.args.driver (take at (texts ws)) (drop (at + 1) (texts ws)))) c.in_ok-at.ensures.place
