use Rattle.std.proofs.Common.{◌≡◌, ◌≤◌, ◌-◌, ◌/◌, ◌*◌, ◌+◌, min, length, take, drop, get_or, sym, ◌∙◌, arith}
use lib.ListN.{length-drop}
use lib.Seq.{take_all}
use Rattle.rdnss.proofs.AreaLaws.{acting_length, count_fits_lem}
use Rattle.rdnss.proofs.AddressLaws.{chunks_from}
use Rattle.rdnss.proofs.CallLaws.{named_none, named_if}
use Rattle.rdnss.proofs.option.named_by.Goals as goal

pub returns-then-not-is_acting : goal.returns-then-not-is_acting
returns-then-not-is_acting c = sym (named_none c.args.option.now (sym c.is_acting.ensures ∙ c.if-not-is_acting.true))

pub slice_bounds-as_chunks-count : goal.slice_bounds-as_chunks-count
slice_bounds-as_chunks-count c = omega (arith, c.requires.whole, acting_length c.args.option.now (sym c.is_acting.ensures ∙ c.if-not-is_acting.false))

pub slice_bounds-as_chunks-start : goal.slice_bounds-as_chunks-start
slice_bounds-as_chunks-start c = omega (arith, c.requires.whole, acting_length c.args.option.now (sym c.is_acting.ensures ∙ c.if-not-is_acting.false))

pub bounds-option-1 : goal.bounds-option-1
bounds-option-1 c = omega (arith, c.requires.whole, acting_length c.args.option.now (sym c.is_acting.ensures ∙ c.if-not-is_acting.false))

pub address_count-requires : goal.address_count-requires
address_count-requires c = omega (arith, c.from.ensures, acting_length c.args.option.now (sym c.is_acting.ensures ∙ c.if-not-is_acting.false))

pub returns : goal.returns
returns c =
    let v = c.args.option.now in
    let a = sym c.is_acting.ensures ∙ c.if-not-is_acting.false in
    let f : 8 + 16 * min ((get_or v 1 0 - 1) / 2) 3 ≤ 8 * get_or v 1 0 = count_fits_lem (get_or v 1 0) (acting_length v a) in
    let d : length (drop 8 v) ≡ length v - 8 = length-drop 8 v in
    let t : take (length v - 8) (drop 8 v) ≡ drop 8 v = take_all (length v - 8) (drop 8 v) (omega arith) in
    let b : min ((get_or v 1 0 - 1) / 2) 3 ≤ length (drop 8 v) / 16 = omega (arith, c.requires.whole) in
    rw (c.as_chunks.ensures.front, c.address_count.ensures, c.from.ensures, t) (chunks_from _ _ (drop 8 v) b ∙ sym (named_if v a))
