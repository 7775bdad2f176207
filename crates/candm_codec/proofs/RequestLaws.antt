-- A request that is written stands for its value, and what stands is read.
use Rattle.std.proofs.Common.{◌≡◌, ◌<◌, ◌^◌, ℕ, List, length, drop, Ok, true, refl, arith}
use Rattle.std.specs.Prelude.{nat_le}
use Rattle.byteorder.specs.Numbers.{big_number-reads_back}
use Rattle.candm_codec.specs.Numbers.{number, spelled}
use Rattle.candm_codec.specs.Request.{request_at, IsTrackingRequest, request_of}
use Rattle.candm_codec.specs.Text.{request_header_text, request_text}
use Rattle.candm_codec.specs.declared.protocol.TheConstants.{REQUEST_LENGTH}
use Rattle.candm_codec.specs.declared.request.Request.{Request}

request_at-text : (r : Request) → r.sequence < 2 ^ 32 → r.attempt < 2 ^ 16 → r ≡ request_at (request_text r)
unfolding number spelled request_header_text request_text
request_at-text r sequence_fits attempt_fits =
    let sequence : number 4 8 (request_text r) ≡ r.sequence = big_number-reads_back 4 r.sequence (drop 12 (request_text r)) sequence_fits in
    let attempt : number 2 6 (request_text r) ≡ r.attempt = big_number-reads_back 2 r.attempt (drop 8 (request_text r)) attempt_fits in
    rw (sequence, attempt) refl

-- what is written stands
pub request_text-stands : (r : Request) → r.sequence < 2 ^ 32 → r.attempt < 2 ^ 16 → IsTrackingRequest (request_text r) r
unfolding number spelled request_header_text request_text
request_text-stands r sequence_fits attempt_fits = record {
  long = omega arith;
  version = refl;
  packet_type = refl;
  command = refl;
  fields = request_at-text r sequence_fits attempt_fits;
}

-- what stands is read
pub request_of-stands : (bytes : List ℕ) (r : Request) → IsTrackingRequest bytes r → request_of bytes ≡ Ok r
unfolding request_of
request_of-stands bytes r stands =
    let long : nat_le REQUEST_LENGTH (length bytes) ≡ true = grind (arith, stands.long) in
    rw (long, stands.version, stands.packet_type, stands.command, stands.fields) refl
