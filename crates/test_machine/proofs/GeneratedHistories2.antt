-- Random histories of the grant machine: every reply and every note is the one that an independent implementation of its rules gave, and so is, after
-- some of them, of each value whether requests and replies alone show it to last, and whether it is live.
use Rattle.std.specs.Prelude.{◌≡◌, refl, true, false, List, [], ◌∷◌, replicate}
use Rattle.std.specs.declared.option.Option.TheVariants.{None, Some}
use Rattle.base64.specs.Rfc4648.{encode_symbols}
use Rattle.gnap_model.specs.declared.rights.Right.TheVariants.{Reference}
use Rattle.gnap_model.specs.Values.{value_text, code_text}
use Rattle.gnap_model.specs.declared.objects.Binding.TheVariants.{Httpsig, Bearer}
use Rattle.gnap_model.specs.declared.objects.Verdict.TheVariants.{Grant, Deny}
use Rattle.gnap_model.specs.declared.calls.Call.TheVariants.{Begin, Introspect, Look, FindCode, Decide, Continue, Modify, Cancel, Rotate, Revoke}
use Rattle.gnap_model.specs.declared.objects.ErrorCode.TheVariants.{InvalidRequest, InvalidClient, InvalidInteraction, InvalidRotation, InvalidContinuation, UserDenied, RequestDenied, UnknownInteraction, TooFast, TooManyAttempts, InvalidAccess}
use Rattle.gnap_model.specs.declared.calls.Reply.TheVariants.{Granted, Active, Inactive, Error, Pending, Shown, Handle, Decided, Continuing, Done, Rotated}
use Rattle.gnap_model.specs.declared.notes.Why.TheVariants.{ByRotation, ByRevocation}
use Rattle.gnap_model.specs.declared.notes.Note.TheVariants.{Approved, Door, Finalized, Wrong, Retired}
use Rattle.test_machine.proofs.ExampleHistories.{Line, line, words, outcomes}
use Rattle.test_machine.proofs.GeneratedWords.{out, asked, told, object, ask_of, finish_by, modes_of, request_of, decide_of, token_out, finish_out, opened, terms, issued, pended, decided}
use Rattle.test_machine.proofs.GeneratedSetups.{rules_0, rules_1, rules_2, text_3, text_5, text_6, text_7, text_9, text_11, text_14, text_16, text_17, text_18, text_19, text_20, text_21, text_22, text_23, text_24, text_25, text_27, text_28, text_30, text_31, text_32, text_33, text_34, text_35, text_36, text_39, text_40, text_41, text_42, text_43, text_44, text_45, text_46, text_47, text_48, text_49, text_50, text_51, text_52, text_53, text_56, text_60, text_62, text_64, text_65, text_66, text_67, text_68, text_69, text_70, text_71, text_74, text_75, text_76, text_77, text_78, text_79, text_80, text_81, text_82, text_83, text_84, text_85, text_86, text_87, text_88, text_89}

-- ---- random history 14
abbrev lines_14 : List Line
lines_14 = line 4 (words [] 0) (Begin text_3
    (request_of ((ask_of (Some text_31) ((Reference text_5) ∷ []) false)
    ∷ (ask_of (Some text_41) ((Reference text_5) ∷ (Reference text_6) ∷ (Reference text_5) ∷ []) true) ∷ (ask_of (Some text_66) ((Reference text_6) ∷ []) false)
    ∷ (ask_of (Some text_67) ((Reference text_5) ∷ []) false) ∷ []) false false (Some text_3) false (Some text_27)
    (Some (modes_of true true false (Some (finish_by false text_64 text_60 false))))) None)
    ∷ line 4 (words [] 0) (Decide text_14 (decide_of text_52 Grant None (Some text_56)))
    ∷ line 603 (words [] 0) (Continue text_3 text_53 (Some text_36))
    ∷ line 604 (words [] 25600000000) (Continue text_3 text_74 None)
    ∷ line 605 (words [] 18446744073709551615) (Look text_14 text_52)
    ∷ line 1204 (words [] 0) (Look text_14 text_52)
    ∷ line 1205 (words [] 0) (Begin text_3
    (request_of ((ask_of (Some text_31) ((Reference text_5) ∷ []) false) ∷ (ask_of (Some text_41) ((Reference text_6) ∷ []) false) ∷ []) false false
    (Some text_3) true (Some text_27) (Some (modes_of true false false None))) None)
    ∷ line 1205 (words [] 0) (Decide text_14 (decide_of text_75 Grant (Some ((Reference text_6) ∷ (Reference text_5) ∷ [])) (Some text_56)))
    ∷ line 1211 (words [] 0) (Introspect text_11 text_50 (Some Httpsig) None)
    ∷ []

pub history_14 : outcomes rules_0 [] lines_14 ≡
    out (Pending text_53 (modes_of true true false (Some (finish_by false text_64 text_60 false))) text_52 text_35 text_34 600 None)
    (opened 1 text_3 false (Some text_27) 2592004
    ∷ terms 1 ((ask_of (Some text_31) ((Reference text_5) ∷ []) false)
    ∷ (ask_of (Some text_41) ((Reference text_5) ∷ (Reference text_6) ∷ (Reference text_5) ∷ []) true)
    ∷ (ask_of (Some text_66) ((Reference text_6) ∷ []) false) ∷ (ask_of (Some text_67) ((Reference text_5) ∷ []) false) ∷ []) false false ∷ Door 1 text_53 9
    ∷ pended 1 604 1204 (modes_of true true false (Some (finish_by false text_64 text_60 false))) text_52 (Some text_35) (Some text_34) ∷ [])
    ∷ out (Decided (Some (finish_out (finish_by false text_64 text_60 false) text_34 text_36)))
    (decided 1 Grant (Some text_36)
    ((Reference text_5) ∷ (Reference text_5) ∷ (Reference text_6) ∷ (Reference text_5) ∷ (Reference text_6) ∷ (Reference text_5) ∷ []) (Some text_56) ∷ [])
    ∷ out (Granted text_74 ((token_out text_45 text_47 (Some text_31) ((Reference text_5) ∷ []) 3600 false)
    ∷ (token_out text_48 text_49 (Some text_41) ((Reference text_5) ∷ (Reference text_6) ∷ (Reference text_5) ∷ []) 3600 true)
    ∷ (token_out text_42 text_46 (Some text_66) ((Reference text_6) ∷ []) 3600 false)
    ∷ (token_out text_50 text_51 (Some text_67) ((Reference text_5) ∷ []) 3600 false) ∷ []) false None None)
    (Approved 1 ((Reference text_5) ∷ (Reference text_5) ∷ (Reference text_6) ∷ (Reference text_5) ∷ (Reference text_6) ∷ (Reference text_5) ∷ [])
    ∷ issued 5 1 (Some text_31) ((Reference text_5) ∷ []) false text_3 603 4203 text_45 text_47
    ∷ issued 7 1 (Some text_41) ((Reference text_5) ∷ (Reference text_6) ∷ (Reference text_5) ∷ []) true text_3 603 4203 text_48 text_49
    ∷ issued 9 1 (Some text_66) ((Reference text_6) ∷ []) false text_3 603 4203 text_42 text_46
    ∷ issued 11 1 (Some text_67) ((Reference text_5) ∷ []) false text_3 603 4203 text_50 text_51 ∷ Door 1 text_74 608 ∷ [])
    ∷ out (Error TooFast) []
    ∷ out (Error UnknownInteraction) []
    ∷ out (Error UnknownInteraction) []
    ∷ out (Pending text_76 (modes_of true false false None) text_75 (replicate 8 0) (replicate 32 0) 600 (Some text_3))
    (opened 2 text_3 true (Some text_27) 2593205
    ∷ terms 2 ((ask_of (Some text_31) ((Reference text_5) ∷ []) false) ∷ (ask_of (Some text_41) ((Reference text_6) ∷ []) false) ∷ []) false false
    ∷ Door 2 text_76 1210 ∷ pended 2 1805 2405 (modes_of true false false None) text_75 None None ∷ [])
    ∷ out (Decided None) (decided 2 Grant None ((Reference text_6) ∷ (Reference text_5) ∷ []) (Some text_56) ∷ [])
    ∷ out Inactive []
    ∷ []
unfolding value_text encode_symbols code_text
history_14 = refl

pub tokens_14 : told rules_0 lines_14
    (asked 4202 (text_45 ∷ text_48 ∷ text_42 ∷ text_50 ∷ []) ∷ asked 2592003 (text_45 ∷ text_48 ∷ text_42 ∷ text_50 ∷ [])
    ∷ asked 2593205 (text_45 ∷ text_48 ∷ text_42 ∷ text_50 ∷ []) ∷ [])
    ≡ (true ∷ true ∷ true ∷ true ∷ true ∷ true ∷ true ∷ true ∷ false ∷ false ∷ false ∷ false ∷ false ∷ false ∷ false ∷ false ∷ false ∷ false ∷ false ∷ false
    ∷ false ∷ false ∷ false ∷ false ∷ [])
unfolding value_text encode_symbols code_text
tokens_14 = refl

-- ---- random history 15
abbrev lines_15 : List Line
lines_15 = line 1700000000 (words [] 25599999999)
    (Begin text_3 (request_of ((ask_of (Some text_31) ((Reference text_5) ∷ []) false) ∷ (ask_of (Some text_41) ((Reference text_6) ∷ []) false) ∷ []) false
    false (Some text_3) false (Some text_27) (Some (modes_of false true true None))) (Some 1700001199))
    ∷ line 1700001200 (words (1 ∷ 10025596243245763063 ∷ 18446744073709551615 ∷ 18446744073709551615 ∷ 1 ∷ 8982586139027279274 ∷ []) 0)
    (Continue text_3 text_53 (Some text_40))
    ∷ line 1700001205 (words [] 2) (Begin text_3
    (request_of ((ask_of None ((Reference text_6) ∷ (Reference text_5) ∷ (Reference text_6) ∷ []) false) ∷ []) true false (Some text_3) false (Some text_27)
    None) None)
    ∷ line 1700001209 (words [] 18446744073709551615) (Introspect text_9 text_53 (Some Httpsig) None)
    ∷ []

pub history_15 : outcomes rules_0 [] lines_15 ≡
    out (Pending text_53 (modes_of false true true None) text_52 text_62 (replicate 32 0) 600 None)
    (opened 1 text_3 false (Some text_27) 1700001199
    ∷ terms 1 ((ask_of (Some text_31) ((Reference text_5) ∷ []) false) ∷ (ask_of (Some text_41) ((Reference text_6) ∷ []) false) ∷ []) false false
    ∷ Door 1 text_53 1700000005 ∷ pended 1 1700000600 1700001200 (modes_of false true true None) text_52 (Some text_62) None ∷ [])
    ∷ out (Error InvalidContinuation) []
    ∷ out (Error RequestDenied) []
    ∷ out Inactive []
    ∷ []
unfolding value_text encode_symbols code_text
history_15 = refl

-- ---- random history 16
abbrev lines_16 : List Line
lines_16 = line 997 (words [] 0)
    (Begin text_3 (request_of ((ask_of (Some text_31) ((object text_16 (Some (text_17 ∷ text_18 ∷ [])) (Some (text_19 ∷ [])) None None None text_20) ∷ []) true)
    ∷ (ask_of (Some text_41) ((object text_16 (Some (text_17 ∷ [])) (Some (text_21 ∷ [])) None None None text_20) ∷ []) false)
    ∷ (ask_of (Some text_66) ((object text_16 None None None None None text_20) ∷ []) true)
    ∷ (ask_of (Some text_67) ((object text_16 None None None None None text_20)
    ∷ (object text_16 (Some (text_17 ∷ [])) (Some (text_21 ∷ [])) None None None text_20)
    ∷ (object text_16 (Some (text_17 ∷ [])) (Some (text_21 ∷ [])) None None None text_20) ∷ []) false)
    ∷ (ask_of (Some text_68) ((object text_16 (Some (text_17 ∷ text_18 ∷ [])) (Some (text_19 ∷ [])) None None None text_20) ∷ []) false)
    ∷ (ask_of (Some text_69) ((Reference text_5) ∷ []) false)
    ∷ (ask_of (Some text_70) ((Reference text_5) ∷ (object text_16 (Some (text_17 ∷ [])) (Some (text_21 ∷ [])) None None None text_20) ∷ []) false)
    ∷ (ask_of (Some text_71) ((object text_16 (Some (text_17 ∷ text_18 ∷ [])) (Some (text_19 ∷ [])) None None None text_20) ∷ []) true) ∷ []) false false
    (Some text_3) false None (Some (modes_of true false false (Some (finish_by false text_32 text_33 false))))) None)
    ∷ line 1005 (words [] 25599999999) (Decide text_14 (decide_of text_52 Deny None None))
    ∷ line 1009 (words (1 ∷ 18237571183343236727 ∷ []) 0) (Continue text_3 text_53 None)
    ∷ line 1596 (words [] 0) (Introspect text_9 text_36 None
    (Some ((object text_16 (Some (text_17 ∷ text_18 ∷ [])) (Some (text_19 ∷ [])) None None None text_20) ∷ [])))
    ∷ line 1596 (words [] 1) (Continue text_3 text_53 (Some text_36))
    ∷ line 1601 (words [] 25600000001)
    (Begin text_3 (request_of ((ask_of None
    ((object text_16 (Some (text_17 ∷ text_18 ∷ [])) (Some (text_19 ∷ [])) None None None text_20)
    ∷ (object text_16 (Some (text_17 ∷ text_18 ∷ [])) (Some (text_19 ∷ [])) None None None text_20)
    ∷ (object text_16 (Some (text_17 ∷ text_18 ∷ [])) (Some (text_19 ∷ [])) None None None text_20) ∷ []) true) ∷ []) true false (Some text_3) false None
    (Some (modes_of false false false None))) None)
    ∷ line 1601 (words [] 7157339860607336108)
    (Introspect text_9 text_45 None (Some ((object text_16 (Some (text_17 ∷ text_18 ∷ [])) (Some (text_19 ∷ [])) None None None text_20) ∷ [])))
    ∷ line 1601 (words [] 0) (Rotate text_3 text_47 (Some text_7))
    ∷ []

pub history_16 : outcomes rules_2 [] lines_16 ≡
    out (Pending text_53 (modes_of true false false (Some (finish_by false text_32 text_33 false))) text_52 (replicate 8 0) text_34 600 None)
    (opened 1 text_3 false None 2592997
    ∷ terms 1 ((ask_of (Some text_31) ((object text_16 (Some (text_17 ∷ text_18 ∷ [])) (Some (text_19 ∷ [])) None None None text_20) ∷ []) true)
    ∷ (ask_of (Some text_41) ((object text_16 (Some (text_17 ∷ [])) (Some (text_21 ∷ [])) None None None text_20) ∷ []) false)
    ∷ (ask_of (Some text_66) ((object text_16 None None None None None text_20) ∷ []) true)
    ∷ (ask_of (Some text_67) ((object text_16 None None None None None text_20)
    ∷ (object text_16 (Some (text_17 ∷ [])) (Some (text_21 ∷ [])) None None None text_20)
    ∷ (object text_16 (Some (text_17 ∷ [])) (Some (text_21 ∷ [])) None None None text_20) ∷ []) false)
    ∷ (ask_of (Some text_68) ((object text_16 (Some (text_17 ∷ text_18 ∷ [])) (Some (text_19 ∷ [])) None None None text_20) ∷ []) false)
    ∷ (ask_of (Some text_69) ((Reference text_5) ∷ []) false)
    ∷ (ask_of (Some text_70) ((Reference text_5) ∷ (object text_16 (Some (text_17 ∷ [])) (Some (text_21 ∷ [])) None None None text_20) ∷ []) false)
    ∷ (ask_of (Some text_71) ((object text_16 (Some (text_17 ∷ text_18 ∷ [])) (Some (text_19 ∷ [])) None None None text_20) ∷ []) true) ∷ []) false false
    ∷ Door 1 text_53 1002 ∷ pended 1 1597 2197 (modes_of true false false (Some (finish_by false text_32 text_33 false))) text_52 None (Some text_34) ∷ [])
    ∷ out (Decided (Some (finish_out (finish_by false text_32 text_33 false) text_34 text_36)))
    (decided 1 Deny (Some text_36) ((object text_16 (Some (text_17 ∷ text_18 ∷ [])) (Some (text_19 ∷ [])) None None None text_20)
    ∷ (object text_16 (Some (text_17 ∷ [])) (Some (text_21 ∷ [])) None None None text_20) ∷ (object text_16 None None None None None text_20)
    ∷ (object text_16 None None None None None text_20) ∷ (object text_16 (Some (text_17 ∷ [])) (Some (text_21 ∷ [])) None None None text_20)
    ∷ (object text_16 (Some (text_17 ∷ [])) (Some (text_21 ∷ [])) None None None text_20)
    ∷ (object text_16 (Some (text_17 ∷ text_18 ∷ [])) (Some (text_19 ∷ [])) None None None text_20) ∷ (Reference text_5) ∷ (Reference text_5)
    ∷ (object text_16 (Some (text_17 ∷ [])) (Some (text_21 ∷ [])) None None None text_20)
    ∷ (object text_16 (Some (text_17 ∷ text_18 ∷ [])) (Some (text_19 ∷ [])) None None None text_20) ∷ []) None ∷ [])
    ∷ out (Error InvalidRequest) []
    ∷ out Inactive []
    ∷ out (Error UserDenied) (Finalized 1 ∷ [])
    ∷ out (Granted text_48 ((token_out text_45 text_47 None
    ((object text_16 (Some (text_17 ∷ text_18 ∷ [])) (Some (text_19 ∷ [])) None None None text_20)
    ∷ (object text_16 (Some (text_17 ∷ text_18 ∷ [])) (Some (text_19 ∷ [])) None None None text_20)
    ∷ (object text_16 (Some (text_17 ∷ text_18 ∷ [])) (Some (text_19 ∷ [])) None None None text_20) ∷ []) 3600 true) ∷ []) true None None)
    (opened 2 text_3 false None 2593601
    ∷ terms 2 ((ask_of None ((object text_16 (Some (text_17 ∷ text_18 ∷ [])) (Some (text_19 ∷ [])) None None None text_20)
    ∷ (object text_16 (Some (text_17 ∷ text_18 ∷ [])) (Some (text_19 ∷ [])) None None None text_20)
    ∷ (object text_16 (Some (text_17 ∷ text_18 ∷ [])) (Some (text_19 ∷ [])) None None None text_20) ∷ []) true) ∷ []) true false ∷ Approved 2 []
    ∷ issued 5 2 None ((object text_16 (Some (text_17 ∷ text_18 ∷ [])) (Some (text_19 ∷ [])) None None None text_20)
    ∷ (object text_16 (Some (text_17 ∷ text_18 ∷ [])) (Some (text_19 ∷ [])) None None None text_20)
    ∷ (object text_16 (Some (text_17 ∷ text_18 ∷ [])) (Some (text_19 ∷ [])) None None None text_20) ∷ []) true text_3 1601 5201 text_45 text_47
    ∷ Door 2 text_48 1606 ∷ [])
    ∷ out (Active ((object text_16 (Some (text_17 ∷ text_18 ∷ [])) (Some (text_19 ∷ [])) None None None text_20)
    ∷ (object text_16 (Some (text_17 ∷ text_18 ∷ [])) (Some (text_19 ∷ [])) None None None text_20)
    ∷ (object text_16 (Some (text_17 ∷ text_18 ∷ [])) (Some (text_19 ∷ [])) None None None text_20) ∷ []) 1601 5201 text_3 true) []
    ∷ out (Error InvalidRotation) []
    ∷ []
unfolding value_text encode_symbols code_text
history_16 = refl

pub tokens_16 : told rules_2 lines_16 (asked 2593601 (text_45 ∷ []) ∷ asked 2592997 (text_45 ∷ []) ∷ asked 1606 (text_45 ∷ []) ∷ [])
    ≡ (false ∷ false ∷ false ∷ false ∷ true ∷ true ∷ [])
unfolding value_text encode_symbols code_text
tokens_16 = refl

-- ---- random history 17
abbrev lines_17 : List Line
lines_17 = line 1003 (words [] 0) (Begin text_7 (request_of [] false true (Some text_7) false None (Some (modes_of false false false None))) None)
    ∷ line 1004 (words [] 25599999999) (Continue text_3 text_40 None)
    ∷ line 1008 (words (1 ∷ 3499937891338298840 ∷ 1 ∷ 1 ∷ []) 0) (Rotate text_3 [] None)
    ∷ line 1009 (words [] 0) (Begin text_3
    (request_of ((ask_of (Some text_31) ((object text_5 None None (Some (text_23 ∷ text_24 ∷ [])) (Some (text_25 ∷ [])) None text_20) ∷ []) true) ∷ []) true
    true (Some text_3) false None (Some (modes_of false true false (Some (finish_by false text_32 text_33 false))))) None)
    ∷ line 1608 (words [] 0) (FindCode text_14 (replicate 8 0))
    ∷ line 1609 (words (1 ∷ 18446744073709551615 ∷ 1 ∷ 18446744073709551615 ∷ 18446744073709551615 ∷ 1 ∷ []) 1) (Look text_14 text_52)
    ∷ []

pub history_17 : outcomes rules_1 [] lines_17 ≡
    out (Error RequestDenied) []
    ∷ out (Error InvalidContinuation) []
    ∷ out (Error InvalidRotation) []
    ∷ out (Pending text_53 (modes_of false true false (Some (finish_by false text_32 text_33 false))) text_52 text_35 text_34 600 None)
    (opened 1 text_3 false None 2593009
    ∷ terms 1 ((ask_of (Some text_31) ((object text_5 None None (Some (text_23 ∷ text_24 ∷ [])) (Some (text_25 ∷ [])) None text_20) ∷ []) true) ∷ []) true true
    ∷ Door 1 text_53 1014 ∷ pended 1 1609 2209 (modes_of false true false (Some (finish_by false text_32 text_33 false))) text_52 (Some text_35) (Some text_34)
    ∷ [])
    ∷ out (Error UnknownInteraction) []
    ∷ out (Error UnknownInteraction) []
    ∷ []
unfolding value_text encode_symbols code_text
history_17 = refl

-- ---- random history 18
abbrev lines_18 : List Line
lines_18 = line 0 (words (18446744073709551615 ∷ 7512067300147317586 ∷ 18446744073709551615 ∷ 18446744073709551615 ∷ 9704218420317861133 ∷ 1
    ∷ 18446744073709551615 ∷ 1 ∷ 1 ∷ 2143578848785660374 ∷ 1 ∷ 18446744073709551615 ∷ 9306334226423849728 ∷ 1 ∷ 1 ∷ 18446744073709551615 ∷ 1
    ∷ 1814882078538539470 ∷ 577803249620834733 ∷ 1 ∷ 18446744073709551615 ∷ 1 ∷ 18446744073709551615 ∷ 18446744073709551615 ∷ 5195281988033870515
    ∷ 12483853780918850455 ∷ 13155950725172578899 ∷ 160488622426905013 ∷ 1 ∷ 12340715437815415967 ∷ 1 ∷ 2779471713184842499 ∷ 18446744073709551615 ∷ 1 ∷ []) 0)
    (Begin text_3 (request_of ((ask_of (Some text_31) ((Reference text_5) ∷ []) true) ∷ []) true false (Some text_3) false (Some text_27)
    (Some (modes_of false true false (Some (finish_by false text_32 text_60 false))))) None)
    ∷ line 3 (words [] 25600000001)
    (Modify text_30 text_77 (request_of
    ((ask_of (Some text_31) ((Reference text_5) ∷ (Reference text_6) ∷ (Reference text_6) ∷ []) false)
    ∷ (ask_of (Some text_41) ((Reference text_6) ∷ (Reference text_5) ∷ []) false) ∷ []) false false (Some text_3) true None
    (Some (modes_of true true false (Some (finish_by false text_64 text_33 false))))))
    ∷ line 4 (words [] 18446744073709551615) (Introspect text_9 text_78 (Some Bearer) None)
    ∷ line 9 (words [] 25599999999) (Continue text_3 text_77 None)
    ∷ line 11 (words [] 25599999999)
    (Begin text_3 (request_of ((ask_of (Some text_31) ((Reference text_6) ∷ (Reference text_6) ∷ []) false) ∷ []) false false (Some text_3) false (Some text_27)
    (Some (modes_of false true false None))) None)
    ∷ line 15 (words [] 0) (Introspect text_11 text_78 (Some Bearer) None)
    ∷ line 20 (words [] 0) (FindCode text_14 text_62)
    ∷ line 20 (words [] 18446744073709551615) (Look text_14 text_47)
    ∷ line 20 (words [] 0) (Introspect text_30 text_78 (Some Bearer) None)
    ∷ []

pub history_18 : outcomes rules_0 [] lines_18 ≡
    out (Granted text_77 ((token_out text_78 text_79 (Some text_31) ((Reference text_5) ∷ []) 3600 true) ∷ []) true None None)
    (opened 1 text_3 false (Some text_27) 2592000 ∷ terms 1 ((ask_of (Some text_31) ((Reference text_5) ∷ []) true) ∷ []) true false ∷ Approved 1 []
    ∷ issued 1 1 (Some text_31) ((Reference text_5) ∷ []) true text_3 0 3600 text_78 text_79 ∷ Door 1 text_77 5 ∷ [])
    ∷ out (Error InvalidClient) []
    ∷ out (Active ((Reference text_5) ∷ []) 0 3600 text_3 true) []
    ∷ out (Continuing text_36) (Door 1 text_36 14 ∷ [])
    ∷ out (Pending text_45 (modes_of false true false None) text_47 text_62 (replicate 32 0) 600 None)
    (opened 2 text_3 false (Some text_27) 2592011 ∷ terms 2 ((ask_of (Some text_31) ((Reference text_6) ∷ (Reference text_6) ∷ []) false) ∷ []) false false
    ∷ Door 2 text_45 16 ∷ pended 2 611 1211 (modes_of false true false None) text_47 (Some text_62) None ∷ [])
    ∷ out Inactive []
    ∷ out (Handle text_47) []
    ∷ out (Shown ((ask_of (Some text_31) ((Reference text_6) ∷ (Reference text_6) ∷ []) false) ∷ []) text_3 591 false (Some text_27)) []
    ∷ out Inactive []
    ∷ []
unfolding value_text encode_symbols code_text
history_18 = refl

pub tokens_18 : told rules_0 lines_18 (asked 20 (text_78 ∷ []) ∷ asked 3599 (text_78 ∷ []) ∷ asked 2591999 (text_78 ∷ []) ∷ [])
    ≡ (true ∷ true ∷ true ∷ true ∷ false ∷ false ∷ [])
unfolding value_text encode_symbols code_text
tokens_18 = refl

-- ---- random history 19
abbrev lines_19 : List Line
lines_19 = line 1700000000 (words (18446744073709551615 ∷ 1 ∷ []) 2)
    (Begin text_7 (request_of ((ask_of (Some text_31) ((Reference text_6) ∷ []) false) ∷ (ask_of (Some text_41) ((Reference text_6) ∷ []) false)
    ∷ (ask_of (Some text_66) ((Reference text_16) ∷ []) false) ∷ []) false false (Some text_7) false (Some text_27) None) None)
    ∷ line 1700000006 (words [] 25600000000) (Introspect text_9 text_34 (Some Httpsig) None)
    ∷ line 1700000006 (words [] 0) (Introspect text_9 text_45 (Some Httpsig) (Some ((Reference text_16) ∷ [])))
    ∷ line 1700000010 (words [] 0) (Introspect text_9 text_45 None None)
    ∷ line 1700000010 (words [] 0) (Introspect text_11 text_45 None (Some ((Reference text_5) ∷ [])))
    ∷ []

pub history_19 : outcomes rules_2 [] lines_19 ≡
    out (Granted text_48 ((token_out text_65 text_52 (Some text_31) ((Reference text_6) ∷ []) 3600 false)
    ∷ (token_out text_34 text_36 (Some text_41) ((Reference text_6) ∷ []) 3600 false)
    ∷ (token_out text_45 text_47 (Some text_66) ((Reference text_16) ∷ []) 3600 false) ∷ []) false None None)
    (opened 1 text_7 false (Some text_27) 1702592000
    ∷ terms 1 ((ask_of (Some text_31) ((Reference text_6) ∷ []) false) ∷ (ask_of (Some text_41) ((Reference text_6) ∷ []) false)
    ∷ (ask_of (Some text_66) ((Reference text_16) ∷ []) false) ∷ []) false false ∷ Approved 1 []
    ∷ issued 1 1 (Some text_31) ((Reference text_6) ∷ []) false text_7 1700000000 1700003600 text_65 text_52
    ∷ issued 3 1 (Some text_41) ((Reference text_6) ∷ []) false text_7 1700000000 1700003600 text_34 text_36
    ∷ issued 5 1 (Some text_66) ((Reference text_16) ∷ []) false text_7 1700000000 1700003600 text_45 text_47 ∷ Door 1 text_48 1700000005 ∷ [])
    ∷ out (Active ((Reference text_6) ∷ []) 1700000000 1700003600 text_7 false) []
    ∷ out (Active ((Reference text_16) ∷ []) 1700000000 1700003600 text_7 false) []
    ∷ out (Active ((Reference text_16) ∷ []) 1700000000 1700003600 text_7 false) []
    ∷ out (Error InvalidAccess) []
    ∷ []
unfolding value_text encode_symbols code_text
history_19 = refl

pub tokens_19 : told rules_2 lines_19
    (asked 1700003600 (text_65 ∷ text_34 ∷ text_45 ∷ []) ∷ asked 1700003599 (text_65 ∷ text_34 ∷ text_45 ∷ [])
    ∷ asked 1700000010 (text_65 ∷ text_34 ∷ text_45 ∷ []) ∷ [])
    ≡ (false ∷ false ∷ false ∷ false ∷ false ∷ false ∷ true ∷ true ∷ true ∷ true ∷ true ∷ true ∷ true ∷ true ∷ true ∷ true ∷ true ∷ true ∷ [])
unfolding value_text encode_symbols code_text
tokens_19 = refl

-- ---- random history 20
abbrev lines_20 : List Line
lines_20 = line 1700000000 (words [] 0)
    (Begin text_3 (request_of ((ask_of (Some text_31) ((Reference text_5) ∷ (Reference text_5) ∷ []) false)
    ∷ (ask_of (Some text_41) ((Reference text_6) ∷ []) false) ∷ []) false false (Some text_3) true (Some text_27)
    (Some (modes_of false true false (Some (finish_by false text_64 text_33 false))))) (Some 1700000007))
    ∷ line 1700000005 (words [] 0) (Decide text_14 (decide_of text_52 Grant None (Some text_56)))
    ∷ line 1700000009 (words [] 25599999999) (Continue text_3 text_53 (Some text_36))
    ∷ line 1700000011 (words [] 2) (Introspect text_11 text_34 (Some Httpsig) None)
    ∷ line 1700000015 (words [] 0) (FindCode text_14 (replicate 8 0))
    ∷ line 1700000015 (words [] 3929585563699163498)
    (Begin text_7 (request_of ((ask_of None ((Reference text_5) ∷ []) false) ∷ []) true false (Some text_7) false (Some text_27)
    (Some (modes_of true false false (Some (finish_by true text_32 text_33 true))))) None)
    ∷ []

pub history_20 : outcomes rules_0 [] lines_20 ≡
    out (Pending text_53 (modes_of false true false (Some (finish_by false text_64 text_33 false))) text_52 text_35 text_34 7 (Some text_3))
    (opened 1 text_3 true (Some text_27) 1700000007
    ∷ terms 1 ((ask_of (Some text_31) ((Reference text_5) ∷ (Reference text_5) ∷ []) false) ∷ (ask_of (Some text_41) ((Reference text_6) ∷ []) false) ∷ [])
    false false ∷ Door 1 text_53 1700000005
    ∷ pended 1 1700000007 1700001200 (modes_of false true false (Some (finish_by false text_64 text_33 false))) text_52 (Some text_35) (Some text_34) ∷ [])
    ∷ out (Decided (Some (finish_out (finish_by false text_64 text_33 false) text_34 text_36)))
    (decided 1 Grant (Some text_36) ((Reference text_5) ∷ (Reference text_5) ∷ (Reference text_6) ∷ []) (Some text_56) ∷ [])
    ∷ out (Error InvalidContinuation) []
    ∷ out Inactive []
    ∷ out (Error UnknownInteraction) []
    ∷ out (Granted text_48 ((token_out text_45 text_47 None ((Reference text_5) ∷ []) 3600 false) ∷ []) true None None)
    (opened 2 text_7 false (Some text_27) 1702592015 ∷ terms 2 ((ask_of None ((Reference text_5) ∷ []) false) ∷ []) true false ∷ Approved 2 []
    ∷ issued 5 2 None ((Reference text_5) ∷ []) false text_7 1700000015 1700003615 text_45 text_47 ∷ Door 2 text_48 1700000020 ∷ [])
    ∷ []
unfolding value_text encode_symbols code_text
history_20 = refl

pub tokens_20 : told rules_0 lines_20 (asked 1700001200 (text_45 ∷ []) ∷ asked 1700000019 (text_45 ∷ []) ∷ asked 1700000020 (text_45 ∷ []) ∷ [])
    ≡ (true ∷ true ∷ true ∷ true ∷ true ∷ true ∷ [])
unfolding value_text encode_symbols code_text
tokens_20 = refl

-- ---- random history 21
abbrev lines_21 : List Line
lines_21 = line 1700000000 (words [] 0)
    (Begin text_3 (request_of ((ask_of None ((object text_16 (Some (text_17 ∷ text_18 ∷ [])) (Some (text_19 ∷ [])) None None None text_20) ∷ []) true) ∷ [])
    true false (Some text_3) false None None) (Some 1700000000))
    ∷ line 1700000006 (words [] 0) (Look text_14 text_40)
    ∷ line 1699999306 (words [] 25599999999) (Continue text_3 text_53 None)
    ∷ line 1700000005 (words [] 0) (Begin text_3
    (request_of ((ask_of (Some text_31) ((object text_16 (Some (text_17 ∷ text_18 ∷ [])) (Some (text_19 ∷ [])) None None None text_20) ∷ []) false)
    ∷ (ask_of (Some text_41) ((object text_16 (Some (text_17 ∷ [])) (Some (text_21 ∷ [])) None None None text_20) ∷ (Reference text_6) ∷ []) true) ∷ []) false
    false (Some text_3) false None (Some (modes_of false true false (Some (finish_by true text_32 text_33 false))))) None)
    ∷ line 1700000004 (words (802050713690681502 ∷ 16813707574289811034 ∷ []) 0) (Continue text_7 text_53 None)
    ∷ line 1700000606 (words [] 0) (Begin text_3
    (request_of ((ask_of (Some text_31) ((object text_16 (Some (text_17 ∷ text_18 ∷ [])) (Some (text_19 ∷ [])) None None None text_20) ∷ []) false)
    ∷ (ask_of (Some text_41) ((object text_16 (Some (text_17 ∷ [])) (Some (text_19 ∷ [])) None None (Some text_22) text_20) ∷ []) false)
    ∷ (ask_of (Some text_66) ((object text_16 (Some (text_17 ∷ text_18 ∷ [])) (Some (text_19 ∷ [])) None None None text_20) ∷ []) false)
    ∷ (ask_of (Some text_67) ((Reference text_5) ∷ []) true)
    ∷ (ask_of (Some text_68) ((object text_16 (Some (text_17 ∷ [])) (Some (text_19 ∷ [])) None None (Some text_22) text_20)
    ∷ (object text_16 (Some (text_17 ∷ [])) (Some (text_21 ∷ [])) None None None text_20) ∷ (Reference text_6) ∷ []) true)
    ∷ (ask_of (Some text_69) ((Reference text_6) ∷ (object text_16 (Some (text_17 ∷ text_18 ∷ [])) (Some (text_19 ∷ [])) None None None text_20)
    ∷ (object text_16 (Some (text_17 ∷ text_18 ∷ [])) (Some (text_19 ∷ [])) None None None text_20) ∷ []) true)
    ∷ (ask_of (Some text_70) ((object text_5 None None (Some (text_23 ∷ text_24 ∷ [])) (Some (text_25 ∷ [])) None text_20)
    ∷ (object text_16 (Some (text_17 ∷ [])) (Some (text_19 ∷ [])) None None (Some text_22) text_20) ∷ []) true)
    ∷ (ask_of (Some text_71) ((object text_16 (Some (text_17 ∷ [])) (Some (text_21 ∷ [])) None None None text_20) ∷ []) true) ∷ []) false true (Some text_3)
    false (Some text_27) (Some (modes_of true true false (Some (finish_by false text_32 text_60 true))))) (Some 1700003607))
    ∷ line 1700000609 (words [] 25600000001) (Cancel text_3 text_53)
    ∷ []

pub history_21 : outcomes rules_1 [] lines_21 ≡
    out (Error RequestDenied) []
    ∷ out (Error UnknownInteraction) []
    ∷ out (Error InvalidContinuation) []
    ∷ out (Pending text_53 (modes_of false true false (Some (finish_by true text_32 text_33 false))) text_52 text_35 text_34 600 None)
    (opened 1 text_3 false None 1702592006
    ∷ terms 1 ((ask_of (Some text_31) ((object text_16 (Some (text_17 ∷ text_18 ∷ [])) (Some (text_19 ∷ [])) None None None text_20) ∷ []) false)
    ∷ (ask_of (Some text_41) ((object text_16 (Some (text_17 ∷ [])) (Some (text_21 ∷ [])) None None None text_20) ∷ (Reference text_6) ∷ []) true) ∷ []) false
    false ∷ Door 1 text_53 1700000011
    ∷ pended 1 1700000606 1700001206 (modes_of false true false (Some (finish_by true text_32 text_33 false))) text_52 (Some text_35) (Some text_34) ∷ [])
    ∷ out (Error InvalidClient) []
    ∷ out (Pending text_36 (modes_of true true false (Some (finish_by false text_32 text_60 true))) text_45 text_35 text_47 600 None)
    (opened 2 text_3 false (Some text_27) 1700003607
    ∷ terms 2 ((ask_of (Some text_31) ((object text_16 (Some (text_17 ∷ text_18 ∷ [])) (Some (text_19 ∷ [])) None None None text_20) ∷ []) false)
    ∷ (ask_of (Some text_41) ((object text_16 (Some (text_17 ∷ [])) (Some (text_19 ∷ [])) None None (Some text_22) text_20) ∷ []) false)
    ∷ (ask_of (Some text_66) ((object text_16 (Some (text_17 ∷ text_18 ∷ [])) (Some (text_19 ∷ [])) None None None text_20) ∷ []) false)
    ∷ (ask_of (Some text_67) ((Reference text_5) ∷ []) true)
    ∷ (ask_of (Some text_68) ((object text_16 (Some (text_17 ∷ [])) (Some (text_19 ∷ [])) None None (Some text_22) text_20)
    ∷ (object text_16 (Some (text_17 ∷ [])) (Some (text_21 ∷ [])) None None None text_20) ∷ (Reference text_6) ∷ []) true)
    ∷ (ask_of (Some text_69) ((Reference text_6) ∷ (object text_16 (Some (text_17 ∷ text_18 ∷ [])) (Some (text_19 ∷ [])) None None None text_20)
    ∷ (object text_16 (Some (text_17 ∷ text_18 ∷ [])) (Some (text_19 ∷ [])) None None None text_20) ∷ []) true)
    ∷ (ask_of (Some text_70) ((object text_5 None None (Some (text_23 ∷ text_24 ∷ [])) (Some (text_25 ∷ [])) None text_20)
    ∷ (object text_16 (Some (text_17 ∷ [])) (Some (text_19 ∷ [])) None None (Some text_22) text_20) ∷ []) true)
    ∷ (ask_of (Some text_71) ((object text_16 (Some (text_17 ∷ [])) (Some (text_21 ∷ [])) None None None text_20) ∷ []) true) ∷ []) false true
    ∷ Door 2 text_36 1700000611 ∷ pended 2 1700001206 1700001806 (modes_of true true false (Some (finish_by false text_32 text_60 true))) text_45 (Some text_35)
    (Some text_47) ∷ [])
    ∷ out Done (Finalized 1 ∷ [])
    ∷ []
unfolding value_text encode_symbols code_text
history_21 = refl

-- ---- random history 22
abbrev lines_22 : List Line
lines_22 = line 1000 (words [] 0) (Begin text_3 (request_of [] false false (Some text_3) true None None) None)
    ∷ line 1001 (words [] 25599999999) (Continue text_3 text_53 None)
    ∷ line 1006 (words (1 ∷ 16255454978329314700 ∷ 18446744073709551615 ∷ 18446744073709551615 ∷ 18446744073709551615 ∷ 18446744073709551615 ∷ 1
    ∷ 18446744073709551615 ∷ 1 ∷ 18446744073709551615 ∷ 18446744073709551615 ∷ 18446744073709551615 ∷ 18446744073709551615 ∷ 1 ∷ 1 ∷ 8137261497558407669 ∷ 1
    ∷ 2032922517559933071 ∷ 18446744073709551615 ∷ 17418358269811485044 ∷ 1 ∷ 18446744073709551615 ∷ 1 ∷ 18446744073709551615 ∷ 14491430316640429568
    ∷ 18446744073709551615 ∷ 1 ∷ 1 ∷ 18446744073709551615 ∷ 1 ∷ 1 ∷ 6059798409296801477 ∷ 1 ∷ 18446744073709551615 ∷ []) 25600000001)
    (Modify text_3 text_53 (request_of
    ((ask_of None ((object text_16 (Some (text_17 ∷ text_18 ∷ [])) (Some (text_19 ∷ [])) None None None text_20)
    ∷ (object text_16 (Some (text_17 ∷ [])) (Some (text_19 ∷ [])) None None (Some text_22) text_20) ∷ []) true) ∷ []) false false (Some text_3) false
    (Some text_27) (Some (modes_of true false true (Some (finish_by false text_64 text_33 false))))))
    ∷ line 1006 (words [] 0) (Look text_14 text_39)
    ∷ line 1011 (words (1 ∷ 18446744073709551615 ∷ 1 ∷ 12891557829728748381 ∷ 1 ∷ 17582511257804681797 ∷ []) 604876686065780089) (FindCode text_14 text_44)
    ∷ []

pub history_22 : outcomes rules_1 [] lines_22 ≡
    out (Granted text_53 [] false None (Some text_3)) (opened 1 text_3 true None 2593000 ∷ terms 1 [] false false ∷ Approved 1 [] ∷ Door 1 text_53 1005 ∷ [])
    ∷ out (Error TooFast) []
    ∷ out (Pending text_80 (modes_of true false true (Some (finish_by false text_64 text_33 false))) text_39 text_44 text_81 600 None)
    (terms 1 ((ask_of None ((object text_16 (Some (text_17 ∷ text_18 ∷ [])) (Some (text_19 ∷ [])) None None None text_20)
    ∷ (object text_16 (Some (text_17 ∷ [])) (Some (text_19 ∷ [])) None None (Some text_22) text_20) ∷ []) true) ∷ []) false false ∷ Door 1 text_80 1011
    ∷ pended 1 1606 2206 (modes_of true false true (Some (finish_by false text_64 text_33 false))) text_39 (Some text_44) (Some text_81) ∷ [])
    ∷ out (Shown ((ask_of None ((object text_16 (Some (text_17 ∷ text_18 ∷ [])) (Some (text_19 ∷ [])) None None None text_20)
    ∷ (object text_16 (Some (text_17 ∷ [])) (Some (text_19 ∷ [])) None None (Some text_22) text_20) ∷ []) true) ∷ []) text_3 600 false None) []
    ∷ out (Handle text_39) []
    ∷ []
unfolding value_text encode_symbols code_text
history_22 = refl

-- ---- random history 23
abbrev lines_23 : List Line
lines_23 = line 1001 (words (1 ∷ 18446744073709551615 ∷ 18446744073709551615 ∷ 11061877726891052627 ∷ []) 25599999999)
    (Begin text_3 (request_of ((ask_of None ((Reference text_6) ∷ (Reference text_5) ∷ []) false) ∷ []) false false (Some text_3) true None
    (Some (modes_of false false true (Some (finish_by true text_64 text_33 false))))) None)
    ∷ line 1001 (words [] 2) (Decide text_14 (decide_of text_82 Grant None (Some text_56)))
    ∷ line 1003 (words [] 25600000000) (Decide text_14 (decide_of text_82 Grant None (Some text_56)))
    ∷ line 1007 (words [] 0) (Continue text_3 text_83 (Some text_36))
    ∷ line 1013 (words (1 ∷ 1 ∷ 1 ∷ 18446744073709551615 ∷ []) 25599999999) (Rotate text_3 text_47 None)
    ∷ line 1015 (words [] 8859524950788009809) (Introspect text_9 text_84 None (Some ((Reference text_6) ∷ [])))
    ∷ line 1600 (words [] 0) (Introspect text_30 text_45 (Some Bearer) None)
    ∷ line 1600 (words [] 0) (Rotate text_3 text_47 None)
    ∷ line 1600 (words [] 0) (Continue text_3 text_48 (Some text_36))
    ∷ []

pub history_23 : outcomes rules_0 [] lines_23 ≡
    out (Pending text_83 (modes_of false false true (Some (finish_by true text_64 text_33 false))) text_82 text_62 text_34 600 (Some text_3))
    (opened 1 text_3 true None 2593001 ∷ terms 1 ((ask_of None ((Reference text_6) ∷ (Reference text_5) ∷ []) false) ∷ []) false false ∷ Door 1 text_83 1006
    ∷ pended 1 1601 2201 (modes_of false false true (Some (finish_by true text_64 text_33 false))) text_82 (Some text_62) (Some text_34) ∷ [])
    ∷ out (Decided (Some (finish_out (finish_by true text_64 text_33 false) text_34 text_36)))
    (decided 1 Grant (Some text_36) ((Reference text_6) ∷ (Reference text_5) ∷ []) (Some text_56) ∷ [])
    ∷ out (Error UnknownInteraction) []
    ∷ out (Granted text_48 ((token_out text_45 text_47 None ((Reference text_6) ∷ (Reference text_5) ∷ []) 3600 false) ∷ []) false None None)
    (Approved 1 ((Reference text_6) ∷ (Reference text_5) ∷ [])
    ∷ issued 5 1 None ((Reference text_6) ∷ (Reference text_5) ∷ []) false text_3 1007 4607 text_45 text_47 ∷ Door 1 text_48 1012 ∷ [])
    ∷ out (Rotated (token_out text_84 text_85 None ((Reference text_6) ∷ (Reference text_5) ∷ []) 3600 false))
    (Retired 5 ByRotation ∷ issued 8 1 None ((Reference text_6) ∷ (Reference text_5) ∷ []) false text_3 1013 4613 text_84 text_85 ∷ [])
    ∷ out (Active ((Reference text_6) ∷ (Reference text_5) ∷ []) 1013 4613 text_3 false) []
    ∷ out Inactive []
    ∷ out (Error InvalidRotation) []
    ∷ out (Error TooManyAttempts) (Finalized 1 ∷ [])
    ∷ []
unfolding value_text encode_symbols code_text
history_23 = refl

pub tokens_23 : told rules_0 lines_23 (asked 1600 (text_45 ∷ text_84 ∷ []) ∷ asked 4606 (text_45 ∷ text_84 ∷ []) ∷ asked 4613 (text_45 ∷ text_84 ∷ []) ∷ [])
    ≡ (false ∷ false ∷ false ∷ false ∷ false ∷ false ∷ false ∷ false ∷ false ∷ false ∷ false ∷ false ∷ [])
unfolding value_text encode_symbols code_text
tokens_23 = refl

-- ---- random history 24
abbrev lines_24 : List Line
lines_24 = line 1002 (words (1 ∷ 18446744073709551615 ∷ 1 ∷ 18446744073709551615 ∷ 17151128350314439341 ∷ 1 ∷ []) 2)
    (Begin text_3 (request_of ((ask_of None ((object text_16 (Some (text_17 ∷ [])) (Some (text_21 ∷ [])) None None None text_20) ∷ []) false) ∷ []) true false
    (Some text_3) false None None) None)
    ∷ line 1007 (words [] 0) (Revoke text_3 text_28)
    ∷ line 1013 (words [] 0) (Modify text_3 text_86
    (request_of ((ask_of (Some text_31) ((object text_16 (Some (text_17 ∷ [])) (Some (text_19 ∷ [])) None None (Some text_22) text_20) ∷ []) true)
    ∷ (ask_of (Some text_41) ((object text_16 (Some (text_17 ∷ [])) (Some (text_19 ∷ text_21 ∷ [])) None None None text_20) ∷ (Reference text_5)
    ∷ (object text_16 (Some (text_17 ∷ [])) (Some (text_21 ∷ [])) None None None text_20) ∷ []) false) ∷ []) false false (Some text_3) false None
    (Some (modes_of false false false None))))
    ∷ line 1013 (words [] 0) (Cancel text_3 text_86)
    ∷ line 1013 (words [] 0) (Continue text_7 text_86 (Some []))
    ∷ line 1019 (words (1 ∷ 1 ∷ 18446744073709551615 ∷ 6336220843273761359 ∷ 10571637129173488139 ∷ 18446744073709551615 ∷ []) 25599999999)
    (Begin text_3 (request_of ((ask_of (Some text_31)
    ((object text_5 None None (Some (text_23 ∷ text_24 ∷ [])) (Some (text_25 ∷ [])) None text_20)
    ∷ (object text_16 (Some (text_17 ∷ [])) (Some (text_19 ∷ [])) None None (Some text_22) text_20)
    ∷ (object text_16 (Some (text_17 ∷ [])) (Some (text_21 ∷ [])) None None None text_20) ∷ []) true)
    ∷ (ask_of (Some text_41) ((object text_16 (Some (text_17 ∷ text_18 ∷ [])) (Some (text_19 ∷ [])) None None None text_20) ∷ []) false) ∷ []) false false
    (Some text_3) false None (Some (modes_of false true false (Some (finish_by false text_64 text_33 true))))) None)
    ∷ line 1020 (words [] 1) (FindCode text_14 text_62)
    ∷ line 1021 (words [] 25600000000) (Continue text_3 text_43 (Some []))
    ∷ line 1021 (words [] 1) (Continue text_3 text_43 (Some text_40))
    ∷ line 1021 (words [] 0) (Continue text_3 text_43 (Some text_53))
    ∷ line 1021 (words (7389256221835184468 ∷ 1 ∷ 1 ∷ 623132667577742449 ∷ 9569243177930717089 ∷ 10458623959956568026 ∷ []) 25600000001)
    (Continue text_3 text_43 (Some text_40))
    ∷ line 1022 (words (18446744073709551615 ∷ 18446744073709551615 ∷ 18446744073709551615 ∷ 1 ∷ 18446744073709551615 ∷ 1 ∷ []) 6315407755954060002)
    (Continue text_3 text_43 (Some text_53))
    ∷ []

pub history_24 : outcomes rules_1 [] lines_24 ≡
    out (Granted text_86 ((token_out text_83 text_28 None ((object text_16 (Some (text_17 ∷ [])) (Some (text_21 ∷ [])) None None None text_20) ∷ []) 3600 false)
    ∷ []) true None None) (opened 1 text_3 false None 2593002
    ∷ terms 1 ((ask_of None ((object text_16 (Some (text_17 ∷ [])) (Some (text_21 ∷ [])) None None None text_20) ∷ []) false) ∷ []) true false
    ∷ Approved 1 [] ∷ issued 1 1 None ((object text_16 (Some (text_17 ∷ [])) (Some (text_21 ∷ [])) None None None text_20) ∷ []) false text_3 1002 4602
    text_83 text_28 ∷ Door 1 text_86 1007 ∷ [])
    ∷ out Done (Retired 1 ByRevocation ∷ [])
    ∷ out (Error RequestDenied) []
    ∷ out Done (Finalized 1 ∷ [])
    ∷ out (Error InvalidContinuation) []
    ∷ out (Pending text_43 (modes_of false true false (Some (finish_by false text_64 text_33 true))) text_87 text_62 text_88 600 None)
    (opened 2 text_3 false None 2593019
    ∷ terms 2 ((ask_of (Some text_31)
    ((object text_5 None None (Some (text_23 ∷ text_24 ∷ [])) (Some (text_25 ∷ [])) None text_20)
    ∷ (object text_16 (Some (text_17 ∷ [])) (Some (text_19 ∷ [])) None None (Some text_22) text_20)
    ∷ (object text_16 (Some (text_17 ∷ [])) (Some (text_21 ∷ [])) None None None text_20) ∷ []) true)
    ∷ (ask_of (Some text_41) ((object text_16 (Some (text_17 ∷ text_18 ∷ [])) (Some (text_19 ∷ [])) None None None text_20) ∷ []) false) ∷ []) false false
    ∷ Door 2 text_43 1024 ∷ pended 2 1619 2219 (modes_of false true false (Some (finish_by false text_64 text_33 true))) text_87 (Some text_62) (Some text_88)
    ∷ [])
    ∷ out (Handle text_87) []
    ∷ out (Error InvalidInteraction) (Wrong 2 ∷ [])
    ∷ out (Error InvalidInteraction) (Wrong 2 ∷ [])
    ∷ out (Error InvalidInteraction) (Wrong 2 ∷ [])
    ∷ out (Error InvalidInteraction) (Wrong 2 ∷ [])
    ∷ out (Error TooManyAttempts) (Wrong 2 ∷ Finalized 2 ∷ [])
    ∷ []
unfolding value_text encode_symbols code_text
history_24 = refl

pub tokens_24 : told rules_1 lines_24 (asked 2593018 (text_83 ∷ []) ∷ asked 2593002 (text_83 ∷ []) ∷ asked 4602 (text_83 ∷ []) ∷ [])
    ≡ (false ∷ false ∷ false ∷ false ∷ false ∷ false ∷ [])
unfolding value_text encode_symbols code_text
tokens_24 = refl

-- ---- random history 25
abbrev lines_25 : List Line
lines_25 = line 1000 (words [] 25599999999)
    (Begin text_3 (request_of ((ask_of (Some text_31) ((Reference text_6) ∷ []) true) ∷ (ask_of (Some text_41) ((Reference text_6) ∷ []) true) ∷ []) false false
    (Some text_3) false (Some text_27) None) None)
    ∷ line 1000 (words [] 0) (Revoke text_3 text_40)
    ∷ line 1000 (words [] 2304833567889460036)
    (Begin text_3 (request_of ((ask_of (Some text_31) ((Reference text_5) ∷ []) false)
    ∷ (ask_of (Some text_41) ((Reference text_6) ∷ (Reference text_5) ∷ (Reference text_5) ∷ []) false) ∷ []) false false (Some text_3) false (Some text_27)
    None) None)
    ∷ line 1000 (words [] 0) (Begin text_3
    (request_of ((ask_of None ((Reference text_6) ∷ []) false) ∷ []) true false (Some text_3) false None
    (Some (modes_of true true true (Some (finish_by true text_64 text_60 false))))) None)
    ∷ line 1002 (words (13910725201779893162 ∷ 18446744073709551615 ∷ 1 ∷ 1 ∷ []) 18446744073709551615) (FindCode text_14 text_62)
    ∷ line 1002 (words [] 0) (Modify text_30 text_53
    (request_of ((ask_of (Some text_31) ((object text_5 None None (Some (text_24 ∷ [])) (Some (text_25 ∷ [])) None text_20) ∷ []) false)
    ∷ (ask_of (Some text_41) ((Reference text_5) ∷ (Reference text_6) ∷ (Reference text_5) ∷ []) false) ∷ []) false false (Some text_3) false None
    (Some (modes_of false false true (Some (finish_by true text_64 text_33 true))))))
    ∷ line 1600 (words [] 0) (Modify text_9 text_53 (request_of ((ask_of None ((Reference text_5) ∷ []) true) ∷ []) true false (Some text_3) false None None))
    ∷ line 1601 (words (1 ∷ 18446744073709551615 ∷ 17107196248366360929 ∷ 18446744073709551615 ∷ []) 25600000001) (Continue text_3 text_53 None)
    ∷ line 1603 (words [] 0) (Introspect text_11 text_34 None (Some ((Reference text_5) ∷ [])))
    ∷ []

pub history_25 : outcomes rules_0 [] lines_25 ≡
    out (Error RequestDenied) []
    ∷ out (Error InvalidRequest) []
    ∷ out (Error RequestDenied) []
    ∷ out (Pending text_53 (modes_of true true true (Some (finish_by true text_64 text_60 false))) text_52 text_35 text_34 600 None)
    (opened 1 text_3 false None 2593000 ∷ terms 1 ((ask_of None ((Reference text_6) ∷ []) false) ∷ []) true false ∷ Door 1 text_53 1005
    ∷ pended 1 1600 2200 (modes_of true true true (Some (finish_by true text_64 text_60 false))) text_52 (Some text_35) (Some text_34) ∷ [])
    ∷ out (Error UnknownInteraction) []
    ∷ out (Error InvalidClient) []
    ∷ out (Error InvalidClient) []
    ∷ out (Error InvalidInteraction) (Finalized 1 ∷ [])
    ∷ out (Error InvalidAccess) []
    ∷ []
unfolding value_text encode_symbols code_text
history_25 = refl

-- ---- random history 26
abbrev lines_26 : List Line
lines_26 = line 0 (words (18446744073709551615 ∷ 1 ∷ 1 ∷ 18446744073709551615 ∷ 18446744073709551615 ∷ 1 ∷ 18446744073709551615 ∷ 8530651095643077424 ∷ 1
    ∷ 12480346994884762481 ∷ 18446744073709551615 ∷ 18446744073709551615 ∷ 14486268860167818629 ∷ 1 ∷ 9428897868418289332 ∷ 591257808080866903
    ∷ 4826144932050105304 ∷ 5861345688314732064 ∷ 13194648967999717811 ∷ 1 ∷ 18446744073709551615 ∷ 1 ∷ 1 ∷ 16937863223365213075 ∷ 10379764967063133151
    ∷ 14263561289531092323 ∷ 1 ∷ 1 ∷ 1 ∷ 1 ∷ 1 ∷ 18446744073709551615 ∷ 18446744073709551615 ∷ 1 ∷ []) 1)
    (Begin text_3 (request_of ((ask_of None ((Reference text_6) ∷ (Reference text_6) ∷ []) true) ∷ []) true false (Some text_3) true None
    (Some (modes_of true true false (Some (finish_by false text_32 text_60 false))))) (Some 599))
    ∷ line 0 (words [] 0) (Decide text_14 (decide_of text_28 Grant (Some ((Reference text_6) ∷ [])) (Some text_56)))
    ∷ line 599 (words (10708090176006839032 ∷ 15159184720304931874 ∷ 1 ∷ 18446744073709551615 ∷ []) 0) (Continue text_3 text_65 None)
    ∷ line 599 (words [] 0) (Look text_14 text_28)
    ∷ line 599 (words [] 0) (Begin text_3
    (request_of ((ask_of None ((Reference text_6) ∷ []) true) ∷ []) true false (Some text_3) false None (Some (modes_of true true false None))) None)
    ∷ []

pub history_26 : outcomes rules_0 [] lines_26 ≡
    out (Pending text_65 (modes_of true true false (Some (finish_by false text_32 text_60 false))) text_28 text_44 text_89 599 (Some text_3))
    (opened 1 text_3 true None 599 ∷ terms 1 ((ask_of None ((Reference text_6) ∷ (Reference text_6) ∷ []) true) ∷ []) true false ∷ Door 1 text_65 5
    ∷ pended 1 599 1200 (modes_of true true false (Some (finish_by false text_32 text_60 false))) text_28 (Some text_44) (Some text_89) ∷ [])
    ∷ out (Decided (Some (finish_out (finish_by false text_32 text_60 false) text_89 text_36)))
    (decided 1 Grant (Some text_36) ((Reference text_6) ∷ []) (Some text_56) ∷ [])
    ∷ out (Error InvalidContinuation) []
    ∷ out (Error UnknownInteraction) []
    ∷ out (Pending text_45 (modes_of true true false None) text_47 text_35 (replicate 32 0) 600 None)
    (opened 2 text_3 false None 2592599 ∷ terms 2 ((ask_of None ((Reference text_6) ∷ []) true) ∷ []) true false ∷ Door 2 text_45 604
    ∷ pended 2 1199 1799 (modes_of true true false None) text_47 (Some text_35) None ∷ [])
    ∷ []
unfolding value_text encode_symbols code_text
history_26 = refl
