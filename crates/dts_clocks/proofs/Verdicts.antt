-- A tree has one verdict.
use Rattle.std.proofs.Common.{◌≡◌, ◌⊎◌, List, length, refl, ap, ◌∙◌, subst, inl, inr}
use Rattle.bundle_text.specs.Firsts.{KeepsBelow}
use Rattle.bundle_text.proofs.Rows.{kept_or_first}
use Rattle.dts_tree.specs.Tree.{SeenNode}
use Rattle.dts_clocks.specs.declared.fault.DtsFault.{DtsFault}
use Rattle.dts_clocks.specs.declared.fault.DtsFault.TheVariants.{UnknownCompatible, NoCells, MissingProperty, BadName, TwiceNamed, BadSpecifier, BadAssigned, NoMemory}
use Rattle.dts_clocks.specs.Faults.{Finds}
use Rattle.dts_clocks.specs.FirstPass.{first_fault}
use Rattle.dts_clocks.specs.Loaded.{SeenLoaded, loaded_of}
use Rattle.dts_clocks.specs.SecondPass.{second_fault}
use Rattle.dts_clocks.specs.Verdict.{Accepts, Refuses, IsFaultOf}

pub each_decided : (nodes : List SeenNode) → ((a : SeenLoaded) × Accepts nodes a) ⊎ ((fault : DtsFault) × Refuses nodes fault)
each_decided nodes =
    elim (kept_or_first (first_fault nodes) (length nodes)) [
      | inl kept ↦
          elim (kept_or_first (second_fault nodes) (length nodes)) [
            | inl second ↦ inl (loaded_of nodes, record { first = kept; second = second; content = refl })
            | inr fault ↦ inr (fault.1, inr (record { kept = kept; found = record { place = fault.0; first = fault.2 } }))
          ]
      | inr fault ↦ inr (fault.1, inl (record { place = fault.0; first = fault.2 }))
    ]

tell : (nodes : List SeenNode) (e : DtsFault) → KeepsBelow (first_fault nodes) (length nodes) → Finds (second_fault nodes) (length nodes) e → IsFaultOf nodes e
tell nodes (UnknownCompatible line) kept found = inr (record { kept = kept; found = found })
tell nodes (NoCells line) kept found = inr (record { kept = kept; found = found })
tell nodes (MissingProperty line) kept found = inr (record { kept = kept; found = found })
tell nodes (BadName line) kept found = inr (record { kept = kept; found = found })
tell nodes (TwiceNamed line) kept found = inr (record { kept = kept; found = found })
tell nodes (BadSpecifier line) kept found = inr (record { kept = kept; found = found })
tell nodes (BadAssigned line) kept found = inr (record { kept = kept; found = found })
tell nodes NoMemory kept found = tt

pub second_told : (one other nodes : List SeenNode) (e : DtsFault) → one ≡ nodes → other ≡ one → KeepsBelow (first_fault one) (length one) → Finds (second_fault other) (length other) e → IsFaultOf nodes e
second_told one other nodes e a b kept found = subst (λ ns. IsFaultOf ns e) a (tell one e kept (subst (λ ns. Finds (second_fault ns) (length ns) e) b found))

pub accepted : (one other nodes : List SeenNode) (loaded : SeenLoaded) → one ≡ nodes → other ≡ one → KeepsBelow (first_fault one) (length one) → KeepsBelow (second_fault other) (length other) → loaded ≡ loaded_of other → Accepts nodes loaded
accepted one other nodes loaded a b first second content =
    subst (λ ns. Accepts ns loaded) a (record { first = first; second = subst (λ ns. KeepsBelow (second_fault ns) (length ns)) b second; content = content ∙ ap loaded_of b })
