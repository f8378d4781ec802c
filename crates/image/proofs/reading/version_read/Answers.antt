use Rattle.std.proofs.Common.{ap, sym, ◌∙◌, arith, not}
use Rattle.base.specs.Refusals.{number_of, number_given}
use Rattle.image.specs.Layout.{length_in}
use Rattle.image.specs.RefusalLaws.{header_short, header_unmarked, header_unknown, header_cut, header_taken, marked_read, version_read_lem, known_unless}
use Rattle.image.specs.Refusals.{known}
use Rattle.image.proofs.reading.version_read.Goals as goal

pub returns-in_default-clause-refusal : goal.returns-in_default-clause-refusal
unfolding number_given number_of
returns-in_default-clause-refusal c = sym (header_short c.args.p.now c.in_default.ensures.cases)

pub returns-then-not-is_marked-clause-refusal : goal.returns-then-not-is_marked-clause-refusal
unfolding number_given number_of
returns-then-not-is_marked-clause-refusal c =
    let p = c.args.p.now in
    let first = c.in-Some.ensures.cases in
    sym (header_unmarked p first.enough (marked_read p _ first.same ∙ sym c.is_marked.ensures ∙ c.if-not-is_marked.true))

pub returns-then-version-clause-refusal : goal.returns-then-version-clause-refusal
unfolding number_given number_of
returns-then-version-clause-refusal c =
    let p = c.args.p.now in
    let first = c.in-Some.ensures.cases in
    let mark = marked_read p _ first.same ∙ sym c.is_marked.ensures ∙ c.if-not-is_marked.false in
    let version = version_read_lem p _ _ first.same c.from_le_bytes-version.ensures in
    sym (header_unknown p first.enough mark (ap known (sym version) ∙ known_unless c.from_le_bytes-version.result ∙ ap not c.if-version.true))

pub returns-then-p-place_in-clause-refusal : goal.returns-then-p-place_in-clause-refusal
unfolding number_given number_of
returns-then-p-place_in-clause-refusal c =
    let p = c.args.p.now in
    let first = c.in-Some.ensures.cases in
    let mark = marked_read p _ first.same ∙ sym c.is_marked.ensures ∙ c.if-not-is_marked.false in
    let version = version_read_lem p _ _ first.same c.from_le_bytes-version.ensures in
    sym (header_cut p first.enough mark (ap known (sym version) ∙ known_unless c.from_le_bytes-version.result ∙ ap not c.if-version.false)
    (omega (arith, c.if-p-place_in.true, c.place_in.ensures, ap length_in version)))

pub returns-clause-refusal : goal.returns-clause-refusal
unfolding number_given
returns-clause-refusal c =
    let p = c.args.p.now in
    let first = c.in-Some.ensures.cases in
    let mark = marked_read p _ first.same ∙ sym c.is_marked.ensures ∙ c.if-not-is_marked.false in
    let version = version_read_lem p _ _ first.same c.from_le_bytes-version.ensures in
    sym (header_taken p first.enough mark (ap known (sym version) ∙ known_unless c.from_le_bytes-version.result ∙ ap not c.if-version.false)
    (omega (arith, c.if-p-place_in.false, c.place_in.ensures, ap length_in version)))

pub returns-clause-version : goal.returns-clause-version
returns-clause-version c = version_read_lem c.args.p.now _ _ c.in-Some.ensures.cases.same c.from_le_bytes-version.ensures
