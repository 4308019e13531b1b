-- Eight calls write the pieces of the line, one after the other. A number of the buffer goes through 64 bits on its way to the call.
use Rattle.std.proofs.Common.{◌≡◌, rules, ◌+◌, pos, get_or, w64}
use Rattle.std.proofs.KnownBytes.{Appends-trans}
use Rattle.lister.proofs.Printing.{printed, printed-number}
use Rattle.lister.proofs.print_row.Goals as goal
use mir.Val.{to_z, of_z}

pub returns : goal.returns
returns g c =
    let a = get_or c.args.out.now c.args.at (pos 0) in
    let b = get_or c.args.out.now (c.args.at + 1) (pos 0) in
    let d = get_or c.args.out.now (c.args.at + 2) (pos 0) in
    let e = get_or c.args.out.now (c.args.at + 3) (pos 0) in
    let as-a : to_z w64 (of_z w64 a) ≡ a = search rules in
    let as-b : to_z w64 (of_z w64 b) ≡ b = search rules in
    let as-d : to_z w64 (of_z w64 d) ≡ d = search rules in
    let as-e : to_z w64 (of_z w64 e) ≡ e = search rules in
    let first = Appends-trans _ _ _ _ _ (printed-number _ _ _ a as-a c.in_ok-print_number.ensures) c.in_ok-write_all.ensures.bytes in
    let second = Appends-trans _ _ _ _ _ (Appends-trans _ _ _ _ _ first (printed-number _ _ _ b as-b c.in_ok-print_number-2.ensures)) c.in_ok-write_all-2.ensures.bytes in
    let third = Appends-trans _ _ _ _ _ (Appends-trans _ _ _ _ _ second (printed-number _ _ _ d as-d c.in_ok-print_number-3.ensures)) c.in_ok-write_all-3.ensures.bytes in
    let fourth = Appends-trans _ _ _ _ _ third (printed-number _ _ _ e as-e c.in_ok-print_number-4.ensures) in
    printed c.write_all-4.result _ _ _ _ _ fourth c.write_all-4.ensures.bytes
