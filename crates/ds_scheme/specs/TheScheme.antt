-- The one scheme of this repository: LMS signatures, shortest chains, and the one spelling of certificates, hellos
-- and frames.
use Rattle.std.specs.Prelude.{ℕ, List, nat_lt}
use Rattle.lms_state.specs.Signers.{Signing, leaves_of, next_signature}
use Rattle.ds_cert.specs.Good.{is_good_delegation, is_good_address}
use Rattle.ds_cert.specs.Reading.{read_cert}
use Rattle.ds_cert.specs.Spelling.{spelling_of_delegation}
use Rattle.ds_msg.specs.declared.message.Message.{Message}
use Rattle.ds_frame.specs.Checks.{is_good_lane_cert}
use Rattle.ds_frame.specs.Spelling.{part_of_frame, spelling_of_frame, spelling_of_hello}
use Rattle.ds_chain.specs.Addresses.{find_address}
use Rattle.ds_chain.specs.Delegated.{key_holds}
use Rattle.ds_model.specs.Scheme.{Scheme}
use Rattle.ds_flow.specs.Chains.{chain_of}
use Rattle.ds_desk.specs.Signing.{key_of, signed_at, if_read}
use Rattle.ds_inlet.specs.Hosts.{items_of, ending_of}
use Rattle.ds_scheme.specs.StandingFrames.{bodies_of, frame_stands}

-- the frame of messages: its number is the next leaf, and the signature is the one at that leaf
abbrev pub frame_of : Signing → List Message → List ℕ
frame_of s messages = spelling_of_frame s.next (bodies_of messages) (next_signature s (part_of_frame s.next (bodies_of messages)))

abbrev pub scheme : Scheme
scheme = record {
  good = is_good_delegation;
  good_address = is_good_address;
  good_lane = is_good_lane_cert;
  holds = key_holds;
  chain = chain_of;
  find = find_address;
  delegation_signature = λ k leaf by c to from until. (signed_at (key_of k) leaf by c to from until).signature;
  spelling = spelling_of_delegation;
  read_cert = λ bytes. if_read (read_cert bytes);
  has_leaf = λ k leaf. nat_lt leaf (leaves_of (key_of k));
  has_lane_leaf = λ k leaf. nat_lt leaf (leaves_of (key_of k));
  hello = spelling_of_hello;
  frame = λ k leaf messages. frame_of (record { key = key_of k; next = leaf }) messages;
  items = items_of;
  ending = ending_of;
  frame_signed = frame_stands;
}
