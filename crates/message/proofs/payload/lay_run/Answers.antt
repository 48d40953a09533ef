-- `message::payload::lay_run` meets its contract: nowhere, into the control store, or into the message store.
use mathlib.Core.Path.{refl, sym, ap, ◌∙◌}
use Prim.Native.Nat.{ℕ, ◌+◌, ◌≤◌}
use native.Mathlib.Omega.{arith}
use lib.ListN.{length}
use borrow.Author.Rules.{rules}
use Rattle.base.proofs.Stores.{length-laid}
use Rattle.message.proofs.Dooms.{refused, not_refused, control_fits, data_fits}
use Rattle.message.proofs.Runs.{run-doomed, run-control, run-data, run-checked}
use Rattle.message.proofs.payload.lay_run.Goals as goal

pub returns-then-is_err : goal.returns-then-is_err
returns-then-is_err c =
    let s = c.args.session.now in
    run-doomed s.settings s.state s.incoming c.args.message.now c.args.control.now c.args.run.now c.args.header c.requires.header_kept
    (refused c.doom.result c.doom.ensures c.is_err.ensures.value c.if-is_err.true) refl

pub put-requires : goal.put-requires
put-requires c =
    let s = c.args.session.now in
    let clear = not_refused c.doom.result c.doom.ensures c.is_err.ensures.value c.if-is_err.false in
    control_fits s.settings s.state c.args.header s.incoming _ _ clear (sym c.is_control.ensures ∙ c.if-is_control.true) c.requires.run_fits c.requires.control_room

pub returns-then-is_control : goal.returns-then-is_control
returns-then-is_control c =
    let s = c.args.session.now in
    let clear = not_refused c.doom.result c.doom.ensures c.is_err.ensures.value c.if-is_err.false in
    run-control s.settings s.state s.incoming c.args.message.now c.args.control.now c.args.run.now c.args.header c.requires.header_kept
    clear (sym c.is_control.ensures ∙ c.if-is_control.true) c.requires.header_is_whole c.mask_of-mask.ensures c.put.ensures refl

pub overflow_add-at : goal.overflow_add-at
overflow_add-at c =
    let s = c.args.session.now in
    let clear = not_refused c.doom.result c.doom.ensures c.is_err.ensures.value c.if-is_err.false in
    let fits = data_fits s.settings s.state c.args.header s.incoming _ _ c.requires.header_legal clear (sym c.is_control.ensures ∙ c.if-is_control.false) c.requires.run_fits c.requires.message_room in
    let message_fits : length c.args.message.now ≤ 18446744073709551615 = search rules in
    omega (arith, c.bytes_before.ensures, fits, message_fits)

pub put-requires-2 : goal.put-requires-2
put-requires-2 c =
    let s = c.args.session.now in
    let clear = not_refused c.doom.result c.doom.ensures c.is_err.ensures.value c.if-is_err.false in
    let fits = data_fits s.settings s.state c.args.header s.incoming _ _ c.requires.header_legal clear (sym c.is_control.ensures ∙ c.if-is_control.false) c.requires.run_fits c.requires.message_room in
    omega (arith, c.bytes_before.ensures, fits)

pub checked-requires : goal.checked-requires
checked-requires c =
    let s = c.args.session.now in
    let clear = not_refused c.doom.result c.doom.ensures c.is_err.ensures.value c.if-is_err.false in
    let fits = data_fits s.settings s.state c.args.header s.incoming _ _ c.requires.header_legal clear (sym c.is_control.ensures ∙ c.if-is_control.false) c.requires.run_fits c.requires.message_room in
    omega (arith, ap length c.put-2.ensures ∙ length-laid _ _ _, c.bytes_before.ensures, fits)

pub returns : goal.returns
returns c =
    let s = c.args.session.now in
    let clear = not_refused c.doom.result c.doom.ensures c.is_err.ensures.value c.if-is_err.false in
    let other = sym c.is_control.ensures ∙ c.if-is_control.false in
    let fits = data_fits s.settings s.state c.args.header s.incoming _ _ c.requires.header_legal clear other c.requires.run_fits c.requires.message_room in
    let room : c.bytes_before.result + s.incoming.counted + length c.args.run.now ≤ length c.args.message.now = omega (arith, c.bytes_before.ensures, fits) in
    run-data s.settings s.state s.incoming c.args.message.now c.args.control.now c.args.run.now c.args.header c.requires.header_kept
    clear other c.requires.header_is_whole c.mask_of-mask.ensures (ap (λ (n : ℕ). n + s.incoming.counted) c.bytes_before.ensures) c.put-2.ensures
    (run-checked s.settings s.state s.incoming c.args.message.now c.args.control.now c.args.run.now c.args.header c.requires.header_kept
    _ c.requires.header_is_whole c.mask_of-mask.ensures c.put-2.ensures room c.is_text.ensures c.checked.ensures)
    refl
