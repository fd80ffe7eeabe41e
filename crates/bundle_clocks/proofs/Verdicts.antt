-- A section of clocks has one verdict.
use Rattle.std.proofs.Common.{◌≡◌, ℕ, ◌+◌, List, Option, Some, None, Result, Ok, Err, length, refl, ap, subst, sym, ◌∙◌, inl, inr}
use Rattle.bundle_text.specs.Firsts.{KeepsBelow}
use Rattle.bundle_text.proofs.Results.{ok_same, err_same, ok_err}
use Rattle.bundle_text.proofs.Rows.{First-kept, First-unique}
use Rattle.bundle_sections.specs.Sections.{version_of}
use Rattle.bundle_sections.specs.declared.section.ClockSection.{ClockSection}
use Rattle.bundle_sections.specs.declared.section.ClockText.{ClockText}
use Rattle.bundle_sections.specs.declared.section.ClockText.TheVariants.{Lines, DeviceTree}
use Rattle.bundle_text.specs.declared.reason.Reason.{Reason}
use Rattle.bundle_text.specs.declared.reason.Reason.TheVariants.{UnknownKind}
use Rattle.bundle_clocks.specs.Reasons.{Told, told, token_told, tree_told, nodes_told}
use Rattle.bundle_clocks.specs.Said.{SaidClocks}
use Rattle.bundle_clocks.specs.Source.{lines_in, source_of}
use Rattle.bundle_clocks.specs.Verdict.{SourceSays, TreeSays, TreeRefused, NodesRefused, SourceRefused, SaysIn, RefusesIn, nodes_of, clocks_of_tree}
use Rattle.clock_lines.proofs.Verdicts as line_laws
use Rattle.dts_bindings.specs.Versions.{all_known}
use Rattle.dts_clocks.specs.declared.fault.DtsFault.{DtsFault}
use Rattle.dts_clocks.specs.Loaded.{SeenLoaded}
use Rattle.dts_clocks.specs.Faults.{IsFirstOf}
use Rattle.dts_clocks.specs.FirstPass.{first_fault}
use Rattle.dts_clocks.specs.SecondPass.{second_fault}
use Rattle.dts_clocks.specs.Verdict as node_verdict
use Rattle.dts_tokens.specs.declared.token.Token.{Token}
use Rattle.dts_tokens.specs.declared.token.TokenFault.{TokenFault}
use Rattle.dts_tokens.specs.declared.token.TokenFault.TheVariants.{BadChar, OpenString, OpenComment, NumberTooBig, NoMemory}
use Rattle.dts_tokens.specs.Tokens as cut
use Rattle.dts_tokens.proofs.OneReading.{one_list, one_flaw, not_both}
use Rattle.dts_tree.specs.Tree.{SeenNode}

-- ## Tokens

line_in : Option Told → ℕ
line_in None = 0
line_in (Some t) = t.line

reason_in : Option Told → Reason
reason_in None = UnknownKind
reason_in (Some t) = t.reason

told_same : (line other : ℕ) (reason why : Reason) → told line reason ≡ told other why → (line ≡ other) × (reason ≡ why)
unfolding line_in reason_in
told_same line other reason why h = (ap line_in h, ap reason_in h)

token_same : (text : List ℕ) (f g : TokenFault) (line other : ℕ) (reason why : Reason) → cut.IsFaultOf text f → cut.IsFaultOf text g → token_told f ≡ told line reason → token_told g ≡ told other why
    → (line ≡ other) × (reason ≡ why)
token_same text (BadChar m) (BadChar n) line other reason why x y e f = (let one = told_same _ line _ reason e in let two = told_same _ other _ why f in let same = one_flaw text _ _ m n x y in (cc, cc))
token_same text (BadChar m) (OpenString n) line other reason why x y e f = (let one = told_same _ line _ reason e in let two = told_same _ other _ why f in let same = one_flaw text _ _ m n x y in (cc, cc))
token_same text (BadChar m) (OpenComment n) line other reason why x y e f = (let one = told_same _ line _ reason e in let two = told_same _ other _ why f in let same = one_flaw text _ _ m n x y in (cc, cc))
token_same text (BadChar m) (NumberTooBig n) line other reason why x y e f = (let one = told_same _ line _ reason e in let two = told_same _ other _ why f in let same = one_flaw text _ _ m n x y in (cc, cc))
token_same text (BadChar m) NoMemory line other reason why x y e f = absurd (cc)
token_same text (OpenString m) (BadChar n) line other reason why x y e f = (let one = told_same _ line _ reason e in let two = told_same _ other _ why f in let same = one_flaw text _ _ m n x y in (cc, cc))
token_same text (OpenString m) (OpenString n) line other reason why x y e f = (let one = told_same _ line _ reason e in let two = told_same _ other _ why f in let same = one_flaw text _ _ m n x y in (cc, cc))
token_same text (OpenString m) (OpenComment n) line other reason why x y e f = (let one = told_same _ line _ reason e in let two = told_same _ other _ why f in let same = one_flaw text _ _ m n x y in (cc, cc))
token_same text (OpenString m) (NumberTooBig n) line other reason why x y e f = (let one = told_same _ line _ reason e in let two = told_same _ other _ why f in let same = one_flaw text _ _ m n x y in (cc, cc))
token_same text (OpenString m) NoMemory line other reason why x y e f = absurd (cc)
token_same text (OpenComment m) (BadChar n) line other reason why x y e f = (let one = told_same _ line _ reason e in let two = told_same _ other _ why f in let same = one_flaw text _ _ m n x y in (cc, cc))
token_same text (OpenComment m) (OpenString n) line other reason why x y e f = (let one = told_same _ line _ reason e in let two = told_same _ other _ why f in let same = one_flaw text _ _ m n x y in (cc, cc))
token_same text (OpenComment m) (OpenComment n) line other reason why x y e f = (let one = told_same _ line _ reason e in let two = told_same _ other _ why f in let same = one_flaw text _ _ m n x y in (cc, cc))
token_same text (OpenComment m) (NumberTooBig n) line other reason why x y e f = (let one = told_same _ line _ reason e in let two = told_same _ other _ why f in let same = one_flaw text _ _ m n x y in (cc, cc))
token_same text (OpenComment m) NoMemory line other reason why x y e f = absurd (cc)
token_same text (NumberTooBig m) (BadChar n) line other reason why x y e f = (let one = told_same _ line _ reason e in let two = told_same _ other _ why f in let same = one_flaw text _ _ m n x y in (cc, cc))
token_same text (NumberTooBig m) (OpenString n) line other reason why x y e f = (let one = told_same _ line _ reason e in let two = told_same _ other _ why f in let same = one_flaw text _ _ m n x y in (cc, cc))
token_same text (NumberTooBig m) (OpenComment n) line other reason why x y e f = (let one = told_same _ line _ reason e in let two = told_same _ other _ why f in let same = one_flaw text _ _ m n x y in (cc, cc))
token_same text (NumberTooBig m) (NumberTooBig n) line other reason why x y e f = (let one = told_same _ line _ reason e in let two = told_same _ other _ why f in let same = one_flaw text _ _ m n x y in (cc, cc))
token_same text (NumberTooBig m) NoMemory line other reason why x y e f = absurd (cc)
token_same text NoMemory g line other reason why x y e f = absurd (cc)

token_cut : (text : List ℕ) (f : TokenFault) (tokens : List Token) (line : ℕ) (reason : Reason) → cut.IsFaultOf text f → token_told f ≡ told line reason → cut.Tokens text tokens → ⊥
token_cut text (BadChar m) tokens line reason x e cuts = not_both text tokens _ m cuts x
token_cut text (OpenString m) tokens line reason x e cuts = not_both text tokens _ m cuts x
token_cut text (OpenComment m) tokens line reason x e cuts = not_both text tokens _ m cuts x
token_cut text (NumberTooBig m) tokens line reason x e cuts = not_both text tokens _ m cuts x
token_cut text NoMemory tokens line reason x e cuts = absurd (cc)

-- ## Sources

-- the nodes of a source
nodes_same : (first : ℕ) (source : List ℕ) (a b : List SeenNode) → SourceSays first source a → SourceSays first source b → a ≡ b
nodes_same first source a b x y =
    let same = one_list source x.tokens y.tokens x.cuts y.cuts in
    ok_same a b (nodes_of first source y.tokens) (ap (nodes_of first source) (sym same) ∙ x.spells) y.spells

tree_same : (first : ℕ) (source : List ℕ) (line other : ℕ) (reason why : Reason) → TreeRefused first source line reason → TreeRefused first source other why → (line ≡ other) × (reason ≡ why)
tree_same first source line other reason why x y =
    let same = one_list source x.tokens y.tokens x.cuts y.cuts in
    let fault = err_same x.fault y.fault (nodes_of first source y.tokens) (ap (nodes_of first source) (sym same) ∙ x.found) y.found in
    told_same line other reason why (sym x.told_is ∙ (ap tree_told fault ∙ y.told_is))

tree_says : (first : ℕ) (source : List ℕ) (nodes : List SeenNode) (line : ℕ) (reason : Reason) → SourceSays first source nodes → TreeRefused first source line reason → ⊥
tree_says first source nodes line reason x y =
    let same = one_list source x.tokens y.tokens x.cuts y.cuts in
    ok_err nodes y.fault (nodes_of first source y.tokens) (ap (nodes_of first source) (sym same) ∙ x.spells) y.found

-- ## Nodes

first_same : (test : ℕ → Option DtsFault) (n : ℕ) (fault other : DtsFault) → IsFirstOf test n fault → IsFirstOf test n other → fault ≡ other
first_same test n fault other x y = (First-unique test n x.place y.place fault other x.first y.first).1

first_kept : (test : ℕ → Option DtsFault) (n : ℕ) (fault : DtsFault) → KeepsBelow test n → IsFirstOf test n fault → ⊥
first_kept test n fault kept x = First-kept test n x.place fault kept x.first

loaded_same : (nodes : List SeenNode) (a b : SeenLoaded) → node_verdict.Accepts nodes a → node_verdict.Accepts nodes b → a ≡ b
loaded_same nodes a b x y = x.content ∙ sym y.content

fault_same : (nodes : List SeenNode) (fault other : DtsFault) → node_verdict.Refuses nodes fault → node_verdict.Refuses nodes other → fault ≡ other
fault_same nodes fault other (inl x) (inl y) = first_same (first_fault nodes) (length nodes) fault other x y
fault_same nodes fault other (inl x) (inr y) = absurd (first_kept (first_fault nodes) (length nodes) fault y.kept x)
fault_same nodes fault other (inr x) (inl y) = absurd (first_kept (first_fault nodes) (length nodes) other x.kept y)
fault_same nodes fault other (inr x) (inr y) = first_same (second_fault nodes) (length nodes) fault other x.found y.found

loaded_fault : (nodes : List SeenNode) (a : SeenLoaded) (fault : DtsFault) → node_verdict.Accepts nodes a → node_verdict.Refuses nodes fault → ⊥
loaded_fault nodes a fault x (inl y) = first_kept (first_fault nodes) (length nodes) fault x.first y
loaded_fault nodes a fault x (inr y) = first_kept (second_fault nodes) (length nodes) fault x.second y.found

nodes_refused_same : (version first : ℕ) (source : List ℕ) (line other : ℕ) (reason why : Reason) → NodesRefused version first source line reason → NodesRefused version first source other why → (line ≡ other) × (reason ≡ why)
nodes_refused_same version first source line other reason why x y =
    let same = nodes_same first source x.nodes y.nodes x.tree y.tree in
    let fault = fault_same (all_known version y.nodes) x.fault y.fault (subst (λ nodes. node_verdict.Refuses (all_known version nodes) x.fault) same x.found) y.found in
    told_same line other reason why (sym x.told_is ∙ (ap nodes_told fault ∙ y.told_is))

source_same : (version first : ℕ) (source : List ℕ) (line other : ℕ) (reason why : Reason) → SourceRefused version first source line reason → SourceRefused version first source other why → (line ≡ other) × (reason ≡ why)
source_same version first source line other reason why (inl x) (inl y) = token_same source x.fault y.fault line other reason why x.first y.first x.told_is y.told_is
source_same version first source line other reason why (inl x) (inr (inl y)) = absurd (token_cut source x.fault y.tokens line reason x.first x.told_is y.cuts)
source_same version first source line other reason why (inl x) (inr (inr y)) = absurd (token_cut source x.fault y.tree.tokens line reason x.first x.told_is y.tree.cuts)
source_same version first source line other reason why (inr (inl x)) (inl y) = absurd (token_cut source y.fault x.tokens other why y.first y.told_is x.cuts)
source_same version first source line other reason why (inr (inl x)) (inr (inl y)) = tree_same first source line other reason why x y
source_same version first source line other reason why (inr (inl x)) (inr (inr y)) = absurd (tree_says first source y.nodes line reason y.tree x)
source_same version first source line other reason why (inr (inr x)) (inl y) = absurd (token_cut source y.fault x.tree.tokens other why y.first y.told_is x.tree.cuts)
source_same version first source line other reason why (inr (inr x)) (inr (inl y)) = absurd (tree_says first source x.nodes other why x.tree y)
source_same version first source line other reason why (inr (inr x)) (inr (inr y)) = nodes_refused_same version first source line other reason why x y

tree_means : (version first : ℕ) (source : List ℕ) (a b : SaidClocks) → TreeSays version first source a → TreeSays version first source b → a ≡ b
tree_means version first source a b x y =
    let same = nodes_same first source x.nodes y.nodes x.tree y.tree in
    let loaded = loaded_same (all_known version y.nodes) x.loaded y.loaded (subst (λ nodes. node_verdict.Accepts (all_known version nodes) x.loaded) same x.accepted) y.accepted in
    x.content ∙ (ap clocks_of_tree loaded ∙ sym y.content)

tree_both : (version first : ℕ) (source : List ℕ) (a : SaidClocks) (line : ℕ) (reason : Reason) → TreeSays version first source a → SourceRefused version first source line reason → ⊥
tree_both version first source a line reason x (inl y) = token_cut source y.fault x.tree.tokens line reason y.first y.told_is x.tree.cuts
tree_both version first source a line reason x (inr (inl y)) = tree_says first source x.nodes line reason x.tree y
tree_both version first source a line reason x (inr (inr y)) =
    let same = nodes_same first source x.nodes y.nodes x.tree y.tree in
    loaded_fault (all_known version y.nodes) x.loaded y.fault (subst (λ nodes. node_verdict.Accepts (all_known version nodes) x.loaded) same x.accepted) y.found

-- ## Sections

pub one_meaning : (text : ClockText) (ls : List (List ℕ)) (s : ClockSection) (a b : SaidClocks) → SaysIn text ls s a → SaysIn text ls s b → a ≡ b
one_meaning Lines ls s a b x y =
    let defs = x.spelled.desc_is ∙ sym y.spelled.desc_is in
    let lines = x.spelled.lines_are ∙ sym y.spelled.lines_are in
    let consumers = x.consumers ∙ sym y.consumers in
    let assigned = x.assigned ∙ sym y.assigned in
    ap (λ d. record { defs = d; lines = a.lines; consumers = a.consumers; assigned = a.assigned }) defs
    ∙ (ap (λ l. record { defs = b.defs; lines = l; consumers = a.consumers; assigned = a.assigned }) lines
    ∙ (ap (λ n. record { defs = b.defs; lines = b.lines; consumers = n; assigned = a.assigned }) consumers
    ∙ ap (λ n. record { defs = b.defs; lines = b.lines; consumers = b.consumers; assigned = n }) assigned))
one_meaning DeviceTree ls s a b x y = tree_means (version_of ls) (s.place + 2) (source_of ls s) a b x y

pub one_refusal : (text : ClockText) (ls : List (List ℕ)) (s : ClockSection) (line other : ℕ) (reason why : Reason) → RefusesIn text ls s line reason → RefusesIn text ls s other why → (line ≡ other) × (reason ≡ why)
one_refusal Lines ls s line other reason why x y = line_laws.one_refusal (version_of ls) (s.place + 1) (lines_in ls s) line other reason why x y
one_refusal DeviceTree ls s line other reason why x y = source_same (version_of ls) (s.place + 2) (source_of ls s) line other reason why x y

pub never_both : (text : ClockText) (ls : List (List ℕ)) (s : ClockSection) (a : SaidClocks) (line : ℕ) (reason : Reason) → SaysIn text ls s a → RefusesIn text ls s line reason → ⊥
never_both Lines ls s a line reason x y = line_laws.never_both (version_of ls) (s.place + 1) (lines_in ls s) a.defs a.lines line reason x.spelled y
never_both DeviceTree ls s a line reason x y = tree_both (version_of ls) (s.place + 2) (source_of ls s) a line reason x y
