-- A section says clocks or is refused, in either form.
use Rattle.std.proofs.Common.{◌≡◌, ◌⊎◌, ℕ, ◌+◌, ◌==◌, Bool, true, false, List, [], Option, Result, Ok, Err, length, IfErr, refl, inl, inr, if◌then◌else◌}
use Rattle.bundle_sections.specs.Sections.{version_of}
use Rattle.bundle_sections.specs.declared.section.ClockSection.{ClockSection}
use Rattle.bundle_sections.specs.declared.section.ClockText.{ClockText}
use Rattle.bundle_sections.specs.declared.section.ClockText.TheVariants.{Lines, DeviceTree}
use Rattle.bundle_text.specs.declared.reason.Reason.{Reason}
use Rattle.bundle_text.specs.declared.reason.Reason.TheVariants as reasons
use Rattle.bundle_clocks.specs.Reasons.{Told, told, token_told, tree_told, nodes_told}
use Rattle.bundle_clocks.specs.Said.{SaidClocks}
use Rattle.bundle_clocks.specs.Source.{lines_in, source_of}
use Rattle.bundle_clocks.specs.Verdict.{SourceSays, TreeSays, SourceRefused, SaysIn, RefusesIn, nodes_of, clocks_of_tree}
use Rattle.clock_lines.proofs.Verdicts as line_laws
use Rattle.dts_bindings.specs.Versions.{all_known}
use Rattle.dts_clocks.specs.declared.fault.DtsFault.{DtsFault}
use Rattle.dts_clocks.specs.declared.fault.DtsFault.TheVariants as dts
use Rattle.dts_clocks.proofs.Lasting as node_faults
use Rattle.dts_clocks.proofs.Verdicts as node_laws
use Rattle.dts_tokens.specs.declared.token.Token.{Token}
use Rattle.dts_tokens.specs.declared.token.TokenFault.{TokenFault}
use Rattle.dts_tokens.specs.declared.token.TokenFault.TheVariants as marks
use Rattle.dts_tokens.specs.Tokens as cut
use Rattle.dts_tokens.proofs.Lasting as token_faults
use Rattle.dts_tree.specs.declared.fault.TreeFault.{TreeFault}
use Rattle.dts_tree.specs.declared.fault.TreeFault.TheVariants as trees
use Rattle.dts_tree.specs.Parsed.{spelled}
use Rattle.dts_tree.specs.Tree.{SeenNode}
use Rattle.dts_tree.proofs.Lasting as tree_faults

-- ## Reasons

-- a line and a reason are told
abbrev IsTold : Option Told → Type 0
IsTold o = (line : ℕ) × (reason : Reason) × (o ≡ told line reason)

token_is_told : (fault : TokenFault) → token_faults.IsNotMemory fault → IsTold (token_told fault)
token_is_told (marks.BadChar line) h = (line, reasons.BadChar, refl)
token_is_told (marks.OpenString line) h = (line, reasons.OpenString, refl)
token_is_told (marks.OpenComment line) h = (line, reasons.OpenComment, refl)
token_is_told (marks.NumberTooBig line) h = (line, reasons.NumberTooBig, refl)
token_is_told marks.NoMemory h = absurd h

tree_is_told : (fault : TreeFault) → tree_faults.IsNotMemory fault → IsTold (tree_told fault)
tree_is_told (trees.Syntax line) h = (line, reasons.Syntax, refl)
tree_is_told (trees.TwiceDefined line) h = (line, reasons.TwiceDefined, refl)
tree_is_told (trees.NoSuchLabel line) h = (line, reasons.NoSuchLabel, refl)
tree_is_told (trees.TooDeep line) h = (line, reasons.TooDeep, refl)
tree_is_told trees.NoMemory h = absurd h

nodes_are_told : (fault : DtsFault) → node_faults.IsNotMemory fault → IsTold (nodes_told fault)
nodes_are_told (dts.UnknownCompatible line) h = (line, reasons.UnknownCompatible, refl)
nodes_are_told (dts.NoCells line) h = (line, reasons.NoCells, refl)
nodes_are_told (dts.MissingProperty line) h = (line, reasons.MissingProperty, refl)
nodes_are_told (dts.BadName line) h = (line, reasons.BadName, refl)
nodes_are_told (dts.TwiceNamed line) h = (line, reasons.TwiceNamed, refl)
nodes_are_told (dts.BadSpecifier line) h = (line, reasons.BadSpecifier, refl)
nodes_are_told (dts.BadAssigned line) h = (line, reasons.BadAssigned, refl)
nodes_are_told dts.NoMemory h = absurd h

-- ## Sources

abbrev IsSourceDecided : ℕ → ℕ → List ℕ → Type 0
IsSourceDecided version first source = ((said : SaidClocks) × TreeSays version first source said) ⊎ ((line : ℕ) × (reason : Reason) × SourceRefused version first source line reason)

nodes_decided : (version first : ℕ) (source : List ℕ) (nodes : List SeenNode) → SourceSays first source nodes → IsSourceDecided version first source
nodes_decided version first source nodes tree =
    elim (node_laws.each_decided (all_known version nodes)) [
      | inl x ↦ inl (clocks_of_tree x.0, record { nodes = nodes; tree = tree; loaded = x.0; accepted = x.1; content = refl })
      | inr x ↦
          let t = nodes_are_told x.0 (node_faults.refused-lasts (all_known version nodes) x.0 x.1) in
          inr (t.0, t.1, inr (inr (record { nodes = nodes; tree = tree; fault = x.0; found = x.1; told_is = t.2 })))
    ]

either : {X : Type 0} (b : Bool) (one other : Result X TreeFault) → tree_faults.Lasts one → tree_faults.Lasts other → tree_faults.Lasts (if b then one else other)
either true one other h g = h
either false one other h g = g

nodes_last : (first : ℕ) (source : List ℕ) (tokens : List Token) → tree_faults.Lasts (nodes_of first source tokens)
nodes_last first source tokens = either (length tokens == 0) (Err (trees.Syntax first)) (spelled source tokens) tt (tree_faults.spelled-lasts source tokens)

tokens_decided : (version first : ℕ) (source : List ℕ) (tokens : List Token) → cut.Tokens source tokens → IsSourceDecided version first source
tokens_decided version first source tokens cuts =
    elim (nodes_of first source tokens) as (λ r. nodes_of first source tokens ≡ r → tree_faults.Lasts r → IsSourceDecided version first source) [
      | Ok nodes ↦ λ e h. nodes_decided version first source nodes (record { tokens = tokens; cuts = cuts; spells = e })
      | Err fault ↦ λ e h. (let t = tree_is_told fault h in inr (t.0, t.1, inr (inl (record { tokens = tokens; cuts = cuts; fault = fault; found = e; told_is = t.2 }))))
    ] refl (nodes_last first source tokens)

source_decided : (version first : ℕ) (source : List ℕ) → IsSourceDecided version first source
source_decided version first source =
    elim (token_faults.cut_or_refused source) [
      | inl x ↦ tokens_decided version first source x.0 x.1
      | inr x ↦
          let t = token_is_told x.0 x.1 in
          inr (t.0, t.1, inl (record { fault = x.0; first = x.2; told_is = t.2 }))
    ]

-- ## Sections

pub section_decided : (text : ClockText) (ls : List (List ℕ)) (s : ClockSection) → ((a : SaidClocks) × SaysIn text ls s a) ⊎ ((line : ℕ) × (reason : Reason) × RefusesIn text ls s line reason)
section_decided Lines ls s =
    elim (line_laws.decided (version_of ls) (s.place + 1) (lines_in ls s)) [
      | inl x ↦ inl (record { defs = x.0; lines = x.1; consumers = []; assigned = [] }, record { spelled = x.2; consumers = refl; assigned = refl })
      | inr x ↦ inr x
    ]
section_decided DeviceTree ls s = source_decided (version_of ls) (s.place + 2) (source_of ls s)
