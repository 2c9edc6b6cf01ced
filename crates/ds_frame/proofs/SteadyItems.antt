-- An item that was read stays read when more bytes come, and a broken stream stays broken.
use Rattle.std.proofs.Common.{ℕ, ◌+◌, List, Option, Some, None, arith}
use Rattle.std.specs.Int.{w8, w16, w32}
use Rattle.ds_wire.specs.Fields.{bytes_at}
use Rattle.ds_label.specs.declared.category.PubKey.{PubKey}
use Rattle.ds_cert.specs.declared.lane.LaneCert.{LaneCert}
use Rattle.ds_cert.specs.Reading.{read_lane_cert}
use Rattle.ds_frame.specs.declared.cause.Cause.TheVariants as causes
use Rattle.ds_frame.specs.declared.item.Frame.{Frame}
use Rattle.ds_frame.specs.declared.item.Item.TheVariants as items
use Rattle.ds_frame.specs.Bodies.{split}
use Rattle.ds_frame.specs.Checks.{checked_cert, checked_bodies, read_hello, read_frame, read_item}
use Rattle.ds_frame.specs.Fields.{field}
use Rattle.ds_frame.specs.Outer.{read_outer_hello, read_outer_frame}
use Rattle.ds_frame.proofs.Steady.{IsSteady, steady_then, steady_done, steady_checked, steady_number, steady_run, steady_from, steady_less}

any_run : (n : ℕ) → IsSteady 0 (λ (bytes : List ℕ). field (bytes_at n bytes))
any_run n = steady_less n 0 (λ (bytes : List ℕ). field (bytes_at n bytes)) (omega arith) (steady_run n)

pub steady_outer_hello : IsSteady 1 read_outer_hello
unfolding read_outer_hello
steady_outer_hello =
    steady_then 1 _ _ (steady_from w8 0x44 0x44 causes.Magic 0) (λ d.
    steady_less 1 0 _ (omega arith) (steady_then 1 _ _ (steady_from w8 0x53 0x53 causes.Magic 1) (λ s.
    steady_less 1 0 _ (omega arith) (steady_then 1 _ _ (steady_from w8 0x58 0x58 causes.Magic 2) (λ x.
    steady_less 1 0 _ (omega arith) (steady_then 1 _ _ (steady_from w8 0x31 0x31 causes.Magic 3) (λ one.
    steady_less 2 0 _ (omega arith) (steady_then 2 _ _ (steady_from w16 1 6860 causes.HelloCount 4) (λ count. any_run count)))))))))

pub steady_outer_frame : IsSteady 1 read_outer_frame
unfolding read_outer_frame
steady_outer_frame =
    steady_then 1 _ _ (steady_from w8 4 4 causes.Tag 0) (λ tag.
    steady_less 4 0 _ (omega arith) (steady_then 4 _ _ (steady_number w32) (λ number.
    steady_less 2 0 _ (omega arith) (steady_then 2 _ _ (steady_from w16 1 16 causes.Count 5) (λ messages.
    steady_less 4 0 _ (omega arith) (steady_then 4 _ _ (steady_from w32 1 1155728 causes.Length 7) (λ size.
    steady_then 0 _ _ (any_run size) (λ body.
    steady_less 2 0 _ (omega arith) (steady_then 2 _ _ (steady_from w16 1 2508 causes.SignatureCount (11 + size)) (λ count.
    steady_then 0 _ _ (any_run count) (λ signature. steady_done (record { number = number; messages = messages; body = body; signature = signature }))))))))))))

pub steady_hello : IsSteady 1 read_hello
unfolding read_hello
steady_hello = steady_then 1 read_outer_hello _ steady_outer_hello (λ cert. steady_checked (checked_cert (read_lane_cert cert)) (λ (lane : LaneCert). lane))

pub steady_frame : (key : PubKey) → IsSteady 1 (read_frame key)
unfolding read_frame
steady_frame key = steady_then 1 read_outer_frame _ steady_outer_frame (λ o. steady_checked (checked_bodies key o (split o.messages o.body)) (λ (frame : Frame). frame))

pub steady_item : (lane : Option LaneCert) → IsSteady 1 (read_item lane)
unfolding read_item
steady_item None = steady_then 1 read_hello _ steady_hello (λ lane. steady_done (items.Hello lane))
steady_item (Some lane) = steady_then 1 (read_frame lane.key) _ (steady_frame lane.key) (λ frame. steady_done (items.Frame frame))
