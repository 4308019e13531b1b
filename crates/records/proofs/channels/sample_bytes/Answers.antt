-- `records::channels::sample_bytes` meets its contract: the channels up to i are summed. Assumes nothing.
use Rattle.records.proofs.Facts.{bytes-short}
use Rattle.records.proofs.Steps.{rest-none, rest_more}
use Prim.Native.Nat.{◌≤◌, ◌*◌}
use native.Mathlib.Omega.{arith}
use Rattle.records.proofs.channels.sample_bytes.Goals as goal

-- a channel has few bytes
few : (c : goal.After-samples_in) → c.width.result * c.samples_in.result ≤ 61847529062400
few c = bytes-short c.width.result c.samples_in.result c.width.ensures.1 c.samples_in.ensures.1

pub loop-i-preserved : goal.loop-i-preserved
loop-i-preserved c =
    let h = few c in (
      omega arith,
      omega arith,
      omega arith,
      λ cs e k.
          rw (c.width.ensures.0, c.samples_in.ensures.0)
          (rest_more (c.loop-i.invariant.3 cs e k) _ (omega arith) _ _ _ c.number-flags.ensures.0 c.number-format.ensures.0 c.number-rate.ensures.0),
    )

pub returns : goal.returns
returns c = let l = c.loop-i-test.false in λ cs e k. rest-none (c.loop-i.invariant.3 cs e k) (omega arith)
