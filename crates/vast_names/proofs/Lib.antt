mod Cut
mod Filing
mod Meanings
