-- What the faults of each reader of a device tree source tell: a line, and what is wrong with it.
use Rattle.std.specs.Prelude.{ℕ, Option, Some, None}
use Rattle.bundle_text.specs.declared.fault.BundleFault.{BundleFault}
use Rattle.bundle_text.specs.declared.fault.BundleFault.TheVariants as faults
use Rattle.bundle_text.specs.declared.reason.Reason.{Reason}
use Rattle.bundle_text.specs.declared.reason.Reason.TheVariants as reasons
use Rattle.dts_clocks.specs.declared.fault.DtsFault.{DtsFault}
use Rattle.dts_clocks.specs.declared.fault.DtsFault.TheVariants as nodes
use Rattle.dts_tokens.specs.declared.token.TokenFault.{TokenFault}
use Rattle.dts_tokens.specs.declared.token.TokenFault.TheVariants as tokens
use Rattle.dts_tree.specs.declared.fault.TreeFault.{TreeFault}
use Rattle.dts_tree.specs.declared.fault.TreeFault.TheVariants as trees

-- a line and what is wrong with it
pub record Told : Type 0 where
  pub line : ℕ
  pub reason : Reason

-- this reason at this line
abbrev pub told : ℕ → Reason → Option Told
told line reason = Some (record { line = line; reason = reason })

-- what a fault of the tokens tells; want of memory tells nothing
abbrev pub token_told : TokenFault → Option Told
token_told (tokens.BadChar line) = told line reasons.BadChar
token_told (tokens.OpenString line) = told line reasons.OpenString
token_told (tokens.OpenComment line) = told line reasons.OpenComment
token_told (tokens.NumberTooBig line) = told line reasons.NumberTooBig
token_told tokens.NoMemory = None

-- what a fault of the tree tells; want of memory tells nothing
abbrev pub tree_told : TreeFault → Option Told
tree_told (trees.Syntax line) = told line reasons.Syntax
tree_told (trees.TwiceDefined line) = told line reasons.TwiceDefined
tree_told (trees.NoSuchLabel line) = told line reasons.NoSuchLabel
tree_told (trees.TooDeep line) = told line reasons.TooDeep
tree_told trees.NoMemory = None

-- what a fault of the nodes tells; want of memory tells nothing
abbrev pub nodes_told : DtsFault → Option Told
nodes_told (nodes.UnknownCompatible line) = told line reasons.UnknownCompatible
nodes_told (nodes.NoCells line) = told line reasons.NoCells
nodes_told (nodes.MissingProperty line) = told line reasons.MissingProperty
nodes_told (nodes.BadName line) = told line reasons.BadName
nodes_told (nodes.TwiceNamed line) = told line reasons.TwiceNamed
nodes_told (nodes.BadSpecifier line) = told line reasons.BadSpecifier
nodes_told (nodes.BadAssigned line) = told line reasons.BadAssigned
nodes_told nodes.NoMemory = None

-- the fault that tells this, or want of memory
abbrev pub told_fault : Option Told → BundleFault
told_fault None = faults.NoMemory
told_fault (Some t) = faults.Refused t.line t.reason
