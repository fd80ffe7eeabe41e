-- Which section of clocks says what in a bundle of its version, and why others are refused.
use Rattle.std.specs.Prelude.{◌≡◌, ℕ, ◌+◌, ◌==◌, ◌⊎◌, List, [], length, Result, Ok, Err, if◌then◌else◌}
use Rattle.bundle_text.specs.declared.reason.Reason.{Reason}
use Rattle.bundle_clocks.specs.Reasons.{told, token_told, tree_told, nodes_told}
use Rattle.bundle_clocks.specs.Said.{SaidClocks}
use Rattle.bundle_clocks.specs.Source.{lines_in, source_of}
use Rattle.bundle_sections.specs.Sections.{version_of}
use Rattle.bundle_sections.specs.declared.section.ClockSection.{ClockSection}
use Rattle.bundle_sections.specs.declared.section.ClockText.{ClockText}
use Rattle.bundle_sections.specs.declared.section.ClockText.TheVariants.{Lines, DeviceTree}
use Rattle.clock_lines.specs.Verdict as line_verdict
use Rattle.dts_bindings.specs.Versions.{all_known}
use Rattle.dts_clocks.specs.declared.fault.DtsFault.{DtsFault}
use Rattle.dts_clocks.specs.Loaded.{SeenLoaded}
use Rattle.dts_clocks.specs.Verdict as node_verdict
use Rattle.dts_tokens.specs.declared.token.TokenFault.{TokenFault}
use Rattle.dts_tokens.specs.declared.token.Token.{Token}
use Rattle.dts_tokens.specs.Tokens as cut
use Rattle.dts_tree.specs.declared.fault.TreeFault.{TreeFault}
use Rattle.dts_tree.specs.declared.fault.TreeFault.TheVariants.{Syntax}
use Rattle.dts_tree.specs.Parsed.{spelled}
use Rattle.dts_tree.specs.Tree.{SeenNode}

-- clock lines say these clocks, and neither consumers nor assigned clocks
pub record LinesSay (ls : List (List ℕ)) (s : ClockSection) (said : SaidClocks) : Type 0 where
  pub spelled : line_verdict.Spells (version_of ls) (s.place + 1) (lines_in ls s) said.defs said.lines
  pub consumers : said.consumers ≡ []
  pub assigned : said.assigned ≡ []

-- the nodes that tokens of a source spell; where there are no tokens, they are missed on its first line
abbrev pub nodes_of : ℕ → List ℕ → List Token → Result (List SeenNode) TreeFault
nodes_of first source tokens = if length tokens == 0 then Err (Syntax first) else spelled source tokens

-- the source whose first line is this is cut into tokens, and they spell these nodes
pub record SourceSays (first : ℕ) (source : List ℕ) (nodes : List SeenNode) : Type 0 where
  pub tokens : List Token
  pub cuts : cut.Tokens source tokens
  pub spells : nodes_of first source tokens ≡ Ok nodes

-- what a tree says
abbrev pub clocks_of_tree : SeenLoaded → SaidClocks
clocks_of_tree loaded = record { defs = loaded.defs; lines = loaded.lines; consumers = loaded.consumers; assigned = loaded.assigned }

-- a device tree source of a version says these clocks
pub record TreeSays (version first : ℕ) (source : List ℕ) (said : SaidClocks) : Type 0 where
  pub nodes : List SeenNode
  pub tree : SourceSays first source nodes
  pub loaded : SeenLoaded
  pub accepted : node_verdict.Accepts (all_known version nodes) loaded
  pub content : said ≡ clocks_of_tree loaded

-- a source can't be cut into tokens
pub record TokensRefused (source : List ℕ) (line : ℕ) (reason : Reason) : Type 0 where
  pub fault : TokenFault
  pub first : cut.IsFaultOf source fault
  pub told_is : token_told fault ≡ told line reason

-- the tokens of a source spell no tree
pub record TreeRefused (first : ℕ) (source : List ℕ) (line : ℕ) (reason : Reason) : Type 0 where
  pub tokens : List Token
  pub cuts : cut.Tokens source tokens
  pub fault : TreeFault
  pub found : nodes_of first source tokens ≡ Err fault
  pub told_is : tree_told fault ≡ told line reason

-- the nodes of a source's tree are refused in a version
pub record NodesRefused (version first : ℕ) (source : List ℕ) (line : ℕ) (reason : Reason) : Type 0 where
  pub nodes : List SeenNode
  pub tree : SourceSays first source nodes
  pub fault : DtsFault
  pub found : node_verdict.Refuses (all_known version nodes) fault
  pub told_is : nodes_told fault ≡ told line reason

-- a source is refused in a version: for its tokens, else for its tree, else for its nodes
abbrev pub SourceRefused : ℕ → ℕ → List ℕ → ℕ → Reason → Type 0
SourceRefused version first source line reason = TokensRefused source line reason ⊎ (TreeRefused first source line reason ⊎ NodesRefused version first source line reason)

-- the section says these clocks, by its form
abbrev pub SaysIn : ClockText → List (List ℕ) → ClockSection → SaidClocks → Type 0
SaysIn Lines ls s said = LinesSay ls s said
SaysIn DeviceTree ls s said = TreeSays (version_of ls) (s.place + 2) (source_of ls s) said

-- the section says these clocks
abbrev pub Says : List (List ℕ) → ClockSection → SaidClocks → Type 0
Says ls s said = SaysIn s.text ls s said

-- the section is refused at this line for this reason, by its form
abbrev pub RefusesIn : ClockText → List (List ℕ) → ClockSection → ℕ → Reason → Type 0
RefusesIn Lines ls s line reason = line_verdict.Refuses (version_of ls) (s.place + 1) (lines_in ls s) line reason
RefusesIn DeviceTree ls s line reason = SourceRefused (version_of ls) (s.place + 2) (source_of ls s) line reason

-- the section is refused at this line for this reason
abbrev pub Refuses : List (List ℕ) → ClockSection → ℕ → Reason → Type 0
Refuses ls s line reason = RefusesIn s.text ls s line reason
