pub mod Numbered
pub mod Noted
pub mod NotedCode
