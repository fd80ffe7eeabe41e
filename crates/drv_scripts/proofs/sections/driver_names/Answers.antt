use Rattle.std.proofs.Common.{◌≡◌, ◌∙◌, ◌++◌, ◌+◌, ℕ, List, Option, Some, None, ap, sym, refl, map, drop, append_assoc}
use Rattle.std.specs.Borrow.{Bor}
use Rattle.std.specs.Option.{option_map, option_to_list}
use Rattle.std.proofs.lemmas.List.{drop_more, map-append}
use Rattle.bundle_sections.specs.Said.{said_section}
use Rattle.bundle_sections.specs.Sections.{SaidSection}
use Rattle.bundle_text.specs.Words.{texts}
use Rattle.drv_scripts.specs.Sections.{driver_names}
use Rattle.drv_scripts.proofs.sections.driver_names.Goals as goal

texts_one : (o : Option (Bor (List ℕ))) → texts (option_to_list o) ≡ option_to_list (option_map (λ n. n.now) o)
texts_one None = refl
texts_one (Some x) = refl

pub loop-section-preserved : goal.loop-section-preserved
loop-section-preserved c =
    let sections = c.args.sections.now in
    let i = c.loop-section.section-index in
    let rest = driver_names (map said_section (drop (i + 1) sections)) in
    let found = texts_one c.name_in.result ∙ c.name_in.ensures in
    ap (λ (xs : List (Bor (List ℕ))). texts xs ++ rest) c.in_ok-push_some.ensures.pushed
    ∙ ap (λ (xs : List (List ℕ)). xs ++ rest) (map-append (λ (w : Bor (List ℕ)). w.now) c.loop-section.names.items (option_to_list c.name_in.result))
    ∙ append_assoc (texts c.loop-section.names.items) (texts (option_to_list c.name_in.result)) rest
    ∙ ap (λ (xs : List (List ℕ)). texts c.loop-section.names.items ++ (xs ++ rest)) found
    ∙ ap (λ (xs : List SaidSection). texts c.loop-section.names.items ++ driver_names xs) (sym (ap (map said_section) (drop_more sections i _ c.loop-section-test.true)))
    ∙ c.loop-section.invariant
