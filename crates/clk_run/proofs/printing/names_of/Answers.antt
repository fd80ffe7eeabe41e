use Rattle.std.proofs.Common.{◌≡◌, ◌∙◌, ◌++◌, ◌∷◌, [], ◌+◌, ℕ, List, ap, sym, map, drop, append_assoc, string_bytes}
use Rattle.std.proofs.lemmas.List.{drop_more, map-append}
use Rattle.drv_scripts.specs.declared.bundle.Script.{Script}
use Rattle.clk_run.proofs.printing.names_of.Goals as goal

pub loop-script-preserved : goal.loop-script-preserved
loop-script-preserved c =
    let drivers = c.args.drivers.now in
    let i = c.loop-script.script-index in
    let done = c.loop-script.names.items in
    let s = c.script-item.result in
    let name = c.in_ok-name.name in
    let rest = map (λ (x : Script). x.name) (drop (i + 1) drivers) in
    let named : string_bytes name ≡ s.name = c.in_ok-name.ensures.ok ∙ c.as_str.ensures in
    ap (λ (names : List _). map string_bytes names ++ rest) c.in_ok-push-2.ensures.items
    ∙ ap (λ (words : List (List ℕ)). words ++ rest) (map-append string_bytes done (name ∷ []))
    ∙ append_assoc (map string_bytes done) (string_bytes name ∷ []) rest
    ∙ ap (λ (word : List ℕ). map string_bytes done ++ word ∷ rest) named
    ∙ ap (λ (x : Script). map string_bytes done ++ x.name ∷ rest) c.script-item.is
    ∙ ap (λ (xs : List Script). map string_bytes done ++ map (λ (x : Script). x.name) xs) (sym (drop_more drivers i s c.loop-script-test.true))
    ∙ c.loop-script.invariant
